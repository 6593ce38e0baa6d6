use Rattle.std.proofs.Common.{arith, ◌≡◌, ◌≤◌, ◌∙◌, List, ap, length, map, take}
use Rattle.std.specs.Prelude.{codes}
use Rattle.std.proofs.lemmas.List.{length-map}
use Rattle.toml.specs.Data.{Members}
use Rattle.toml.specs.View.{table_view, view}
use Rattle.ptpm_script.specs.Heads.{clock_value, clocks_of, items_at, session_value, sessions_of}
use Rattle.ptpm_script.specs.NetworkText.{clock_of, link_of, network_in, session_of}
use Rattle.ptpm_script.specs.NetworkValue.{NetworkValue}
use Rattle.ptpm_script.specs.declared.heads.ClockHead.{ClockHead}
use Rattle.ptpm_script.specs.declared.heads.SessionHead.{SessionHead}
use Rattle.ptpm_script.proofs.ItemLemmas.{first-views}
use Rattle.ptpm_script.proofs.LimitLemmas.{clock-count, session-count}
use Rattle.ptpm_script.proofs.reading.Parts.of.Goals as goal

few-clocks : (heads : List ClockHead) (ms : Members) → map clock_value heads ≡ clocks_of ms → length heads ≤ 64
few-clocks heads ms are = omega (arith, clock-count ms, length-map heads clock_value, ap length are)

few-sessions : (heads : List SessionHead) (ms : Members) → map session_value heads ≡ sessions_of ms → length heads ≤ 256
few-sessions heads ms are = omega (arith, session-count ms, length-map heads session_value, ap length are)

same-network : (a b : NetworkValue) → a.clocks ≡ b.clocks → a.sessions ≡ b.sessions → a.links ≡ b.links → a ≡ b
same-network a b clocks sessions links = λ i. record { clocks = clocks i; sessions = sessions i; links = links i }

pub sessions_of-requires : goal.sessions_of-requires
sessions_of-requires c =
    few-clocks c.as_slice-clocks.result.now (table_view c.args.file.now) (ap (map clock_value) c.as_slice-clocks.ensures.value ∙ c.requires.clocks)

pub links_of-requires-clause-clocks : goal.links_of-requires-clause-clocks
links_of-requires-clause-clocks c =
    few-clocks c.as_slice-clocks.result.now (table_view c.args.file.now) (ap (map clock_value) c.as_slice-clocks.ensures.value ∙ c.requires.clocks)

pub links_of-requires-clause-sessions : goal.links_of-requires-clause-sessions
links_of-requires-clause-sessions c =
    few-sessions c.as_slice-sessions.result.now (table_view c.args.file.now)
    (ap (map session_value) c.as_slice-sessions.ensures.value ∙ c.requires.sessions)

pub returns : goal.returns
unfolding network_in
returns c =
    let ms = table_view c.args.file.now in
    let clocks : map clock_value c.as_slice-clocks.result.now ≡ clocks_of ms = ap (map clock_value) c.as_slice-clocks.ensures.value ∙ c.requires.clocks in
    let sessions : map session_value c.as_slice-sessions.result.now ≡ sessions_of ms =
    ap (map session_value) c.as_slice-sessions.ensures.value ∙ c.requires.sessions in
    let links : map view c.first_items-links.result.now ≡ take 256 (items_at (codes "link") ms) =
    first-views 256 _ _ _ c.items_at.ensures c.first_items-links.ensures.front in
    same-network _ _
    (c.in_ok-clocks_of.ensures ∙ ap (map clock_of) clocks)
    (c.in_ok-sessions_of.ensures ∙ (λ i. map (session_of (clocks i)) (sessions i)))
    (c.in_ok-links_of.ensures ∙ (λ i. map (link_of (clocks i) (sessions i)) (links i)))
