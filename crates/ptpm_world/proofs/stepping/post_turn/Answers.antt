-- A clock's outbox is sent message by message.
use Rattle.ptpm_world.proofs.Common.{◌≡◌, ℕ, ◌+◌, ◌<◌, ◌==◌, List, ◌++◌, sym, ◌∙◌, ap, length, get_or, take, if◌then◌else◌, flat_map_more, flat_map, map, Held, posted, AtPort, peers, posted_by, Origin, ◌-◌, arith, subst, cond-false, cond-true, eq-eqb, ne_eqb, IsOfSession, HasRoom, held_in, link_ends, origin_of}
use Rattle.ptpm_network.specs.Network.{End}
use Rattle.ptpm_world.proofs.Changing.{map_more}
use Rattle.ptpm_table.specs.declared.outbox.TheConstants.{OUTBOX_MESSAGES}
use Rattle.ptpm_world.proofs.stepping.post_turn.Goals.{else-port-ingress, then-port-ingress}
use Rattle.ptpm_world.proofs.stepping.post_turn.Goals as goal

-- what was posted of the messages so far, and the frames of one more
posted-more : {X : Type 0} (entries : List X) (view : X → ℕ × List ℕ) (links : List (List End))
    (c ingress : ℕ) (passed reply : Origin) (i : ℕ) (e : X) (start now new : List Held)
    (octets : List ℕ) (origin : Origin)
    → i < length entries
    → e ≡ get_or entries i e
    → now ≡ start ++ flat_map (posted_by links c ingress passed reply) (map view (take i entries))
    → new ≡ now ++ posted (peers links (AtPort c (view e).0)) octets origin
    → octets ≡ (view e).1
    → origin ≡ (if (view e).0 == ingress then reply else passed)
    → new
    ≡ start
    ++ flat_map (posted_by links c ingress passed reply) (map view (take (i + 1) entries))
posted-more entries view links c ingress passed reply i e start now new octets origin h is before more same belongs =
    more
    ∙ ap (λ hs. hs ++ posted (peers links (AtPort c (view e).0)) octets origin) before
    ∙ ap (λ os. (start ++ flat_map (posted_by links c ingress passed reply) (map view (take i entries))) ++ posted (peers links (AtPort c (view e).0)) os origin) same
    ∙ ap (λ (o : Origin). (start ++ flat_map (posted_by links c ingress passed reply) (map view (take i entries))) ++ posted (peers links (AtPort c (view e).0)) (view e).1 o) belongs
    ∙ flat_map_more (posted_by links c ingress passed reply) start (map view (take i entries)) (view e)
    ∙ ap (λ ms. start ++ flat_map (posted_by links c ingress passed reply) ms) (sym (map_more view entries i e h is))

pub loop-port-preserved : goal.loop-port-preserved
loop-port-preserved c =
    let i = c.loop-port.port-index in
    let e = c.loop-port-item.result in
    let reply = c.reply_origin-reply.result in
    let within : i < length c.args.entries.now = omega arith in
    let few : i < OUTBOX_MESSAGES = omega (arith, c.requires.few) in
    let belongs : origin_of c.if-port-ingress.origin ≡ (if e.0 == c.args.ingress then origin_of reply else origin_of c.args.origin) =
    elim c.if-port-ingress.branch [
      | then-port-ingress w ↦ ap origin_of w.origin-is ∙ sym (cond-true _ _ _ (eq-eqb _ _ w.if-port-ingress.true))
      | else-port-ingress w ↦ ap origin_of w.origin-is ∙ sym (cond-false _ _ _ (ne_eqb _ _ w.if-port-ingress.false))
    ] in
    let of_session : (sessions : ℕ) → IsOfSession sessions c.args.origin → IsOfSession sessions c.if-port-ingress.origin = λ sessions of.
    elim c.if-port-ingress.branch [
      | then-port-ingress w ↦ subst (IsOfSession sessions) (sym w.origin-is) (c.reply_origin-reply.ensures.session sessions of)
      | else-port-ingress w ↦ subst (IsOfSession sessions) (sym w.origin-is) of
    ] in
    let before : HasRoom (OUTBOX_MESSAGES - 1 - i + 1) c.loop-port.frames = subst (λ n. HasRoom n c.loop-port.frames) (omega arith) c.loop-port.invariant.room in
    record {
      room = subst (λ n. HasRoom n c.post.new.self) (omega arith) (c.post.ensures.room (OUTBOX_MESSAGES - 1 - i) before);
      frames = posted-more c.args.entries.now (λ x. (x.0, x.1.items)) (link_ends c.args.links.now) c.args.place c.args.ingress (origin_of c.args.origin) (origin_of reply) i e _ (held_in c.loop-port.frames) _ c.as_slice.result.now _
          within c.loop-port-item.is c.loop-port.invariant.frames c.post.ensures.frames c.as_slice.ensures.value belongs;
      stored = λ counts sessions all links of. c.post.ensures.stored counts sessions (c.loop-port.invariant.stored counts sessions all links of) links (of_session sessions of);
    }
