use Rattle.std.proofs.Common.{◌≡◌, ℕ, ◌+◌, arith, [], ◌∷◌, ◌++◌, ap, map, sym, ◌∙◌}
use Rattle.std.specs.List.{flat_map, range_with_len}
use Rattle.std.proofs.lemmas.List.{flat_map_more, map-id}
use Rattle.std.proofs.lemmas.List.FromFn.{map-range_with_len_more}
use Rattle.toml.specs.View.{view}
use Rattle.ptpm_script.specs.StartFaults.{rank_marks}
use Rattle.ptpm_script.proofs.faults.Faults.add_port_starts.Goals as goal

one_more : (n : ℕ) → range_with_len 1 (n + 1) ≡ range_with_len 1 n ++ (n + 1) ∷ []
one_more n =
    sym (map-id (range_with_len 1 (n + 1)))
    ∙ map-range_with_len_more (λ (k : ℕ). k) 1 n (n + 1) (omega arith)
    ∙ ap (λ ns. ns ++ (n + 1) ∷ []) (map-id (range_with_len 1 n))

pub loop-place-preserved : goal.loop-place-preserved
loop-place-preserved c =
    let place = c.loop-place.place in
    let of = rank_marks c.args.clock.now.number (map view c.args.ports.now) in
    let before = c.args.self.now in
    c.in_ok-add_rank.ensures
    ∙ ap (λ ms. ms ++ of (place + 1)) c.loop-place.invariant
    ∙ flat_map_more of before (range_with_len 1 place) (place + 1)
    ∙ ap (λ ns. before ++ flat_map of ns) (sym (one_more place))
