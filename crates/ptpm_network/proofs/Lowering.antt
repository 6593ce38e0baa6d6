-- A turn at a message whose hops were lowered.
use Rattle.ptpm_network.proofs.Common.{arith, ◌≡◌, ℕ, ◌-◌, ◌<◌, ◌≤◌, ◌==◌, ◌&&◌, not, nat_lt, Bool, true, false, if◌then◌else◌, List, [], ◌∷◌, map, Option, Some, None, Ok, refl, sym, ◌∙◌, ap, subst, cond-false, lt-ltb, ClockIdentity, Message, canonical, message_of, same_clock, may_forward, Answer, ReplyValue, Heard, DataSetsValue, heard_of, reply_message, rendered, Clock, State, Turned, Verdict, judged, turn, turn_by, turn-message, reply_messages, reply_by, forwarded}
use Rattle.ptpm_codec.proofs.RewritingLaws.{less_hop_message}
use Rattle.ptpm_agent.specs.Forwarding.{egress_ports, forwarded_by, is_forwarded, with_less_hop}
use Rattle.ptpm_agent.specs.declared.verdict.Verdict.TheVariants as verdicts
use Rattle.ptpm_agent.specs.Turn.{next_by}
use Rattle.ptpm_network.specs.Lowered.{AreLowered, IsLowered, with_fewer_hops}

-- ---- what is replied

rendered-alike : (me : ClockIdentity) (heard : Heard) (starting hops : ℕ) (r : ReplyValue) (ingress : ℕ)
    → starting - hops ≡ heard.starting_hops - heard.hops
    → rendered me (record heard { starting_hops = starting; hops = hops }) r ingress ≡ rendered me heard r ingress
unfolding rendered
rendered-alike me heard starting hops r ingress same =
    ap (λ lost. map (λ (a : Answer). (ingress, canonical (record (reply_message me heard r.action r.id ingress a) { starting_hops = lost; hops = lost }))) r.answers) same

replied-alike : (c : Clock) (ingress : ℕ) (heard : Heard) (starting hops : ℕ) (r : Option ReplyValue)
    → starting - hops ≡ heard.starting_hops - heard.hops
    → reply_messages c ingress (record heard { starting_hops = starting; hops = hops }) r ≡ reply_messages c ingress heard r
replied-alike c ingress heard starting hops None same = refl
replied-alike c ingress heard starting hops (Some r) same = rendered-alike c.identity heard starting hops r ingress same

-- ---- what is decided

judged-alike : (c : Clock) (s : State) (most : ℕ) (v : Message) → judged c s (with_fewer_hops most v) ≡ judged c s v
unfolding judged
judged-alike c s most v = refl

next_by-alike : (w : Verdict) (c : Clock) (s : State) (most : ℕ) (v : Message) → next_by w c s (with_fewer_hops most v) ≡ next_by w c s v
next_by-alike verdicts.AnsweredNew c s most v = refl
next_by-alike _ c s most v = refl

reply_by-alike : (w : Verdict) (c : Clock) (s : State) (most : ℕ) (v : Message) → reply_by w c s (with_fewer_hops most v) ≡ reply_by w c s v
reply_by-alike verdicts.AnsweredNew c s most v = refl
reply_by-alike verdicts.AnsweredRepeat c s most v = refl
reply_by-alike verdicts.AnsweredUnnumbered c s most v = refl
reply_by-alike _ c s most v = refl

-- ---- what is passed on

passed-from : (me : ClockIdentity) (ingress : ℕ) (d : DataSetsValue) (datagram : List ℕ) (v : Message)
    → message_of datagram ≡ Some v
    → forwarded me ingress d datagram ≡ (if is_forwarded me ingress d v then map (λ port. (port, with_less_hop datagram)) (egress_ports ingress d) else [])
unfolding forwarded
passed-from me ingress d datagram v e = ap (forwarded_by me ingress d datagram) e

-- a hop fewer of each
starting-alike : (starting hops most : ℕ) → 0 < most → starting - (hops - most) ≡ starting - ((hops - 1) - (most - 1))
starting-alike starting hops most some = omega (arith, some)

less-lowered : (most : ℕ) (datagram lowered : List ℕ) → 0 < most → IsLowered most datagram lowered
    → IsLowered (most - 1) (with_less_hop datagram) (with_less_hop lowered)
less-lowered most datagram lowered some h = record {
  message = record h.message { hops = h.message.hops - 1 };
  read = less_hop_message h.message datagram h.read;
  fewer = omega (arith, h.fewer);
  is = less_hop_message (with_fewer_hops most h.message) lowered h.is
      ∙ ap (λ starting. Some (record h.message { starting_hops = starting; hops = most - 1 })) (starting-alike h.message.starting_hops h.message.hops most some);
}

lowered-at : (most : ℕ) (datagram lowered : List ℕ) (ports : List ℕ) → IsLowered most datagram lowered
    → AreLowered most (map (λ port. (port, datagram)) ports) (map (λ port. (port, lowered)) ports)
lowered-at most datagram lowered [] h = tt
lowered-at most datagram lowered (p ∷ ports) h = (refl, h, lowered-at most datagram lowered ports h)

lowered-if : (b : Bool) (most : ℕ) (datagram lowered : List ℕ) (ports : List ℕ) → IsLowered most datagram lowered
    → AreLowered most (if b then map (λ port. (port, datagram)) ports else []) (if b then map (λ port. (port, lowered)) ports else [])
lowered-if false most datagram lowered ports h = tt
lowered-if true most datagram lowered ports h = lowered-at most datagram lowered ports h

-- ---- the turn

hops-alike : (starting hops most : ℕ) → most ≤ hops → (starting - (hops - most)) - most ≡ starting - hops
hops-alike starting hops most le = omega (arith, le)

module _ (c : Clock) (s : State) (ingress most : ℕ) (datagram lowered : List ℕ) (h : IsLowered most datagram lowered) where
  abbrev less : Message
  less = with_fewer_hops most h.message

  there : turn c s ingress lowered ≡ turn_by c s ingress lowered (Ok less)
  there = turn-message c s ingress lowered less h.is

  here : turn c s ingress datagram ≡ turn_by c s ingress datagram (Ok h.message)
  here = turn-message c s ingress datagram h.message h.read

  pub verdict-alike : (turn c s ingress lowered).verdict ≡ (turn c s ingress datagram).verdict
  verdict-alike = ap (λ (t : Turned). t.verdict) there ∙ judged-alike c s most h.message ∙ sym (ap (λ (t : Turned). t.verdict) here)

  pub next-alike : (turn c s ingress lowered).next ≡ (turn c s ingress datagram).next
  next-alike =
      ap (λ (t : Turned). t.next) there
      ∙ next_by-alike (judged c s less) c s most h.message ∙ ap (λ w. next_by w c s h.message) (judged-alike c s most h.message)
      ∙ sym (ap (λ (t : Turned). t.next) here)

  pub replies-alike : (turn c s ingress lowered).replies ≡ (turn c s ingress datagram).replies
  replies-alike =
      let v : Message = h.message in
      ap (λ (t : Turned). t.replies) there
      ∙ replied-alike c ingress (heard_of v) (v.starting_hops - (v.hops - most)) most (reply_by (judged c s less) c s less) (hops-alike v.starting_hops v.hops most h.fewer)
      ∙ ap (λ o. reply_messages c ingress (heard_of v) o) (reply_by-alike (judged c s less) c s most v ∙ ap (λ w. reply_by w c s v) (judged-alike c s most v))
      ∙ sym (ap (λ (t : Turned). t.replies) here)

  forwards-there : (turn c s ingress lowered).forwards ≡ (if is_forwarded c.identity ingress s.sets less then map (λ port. (port, with_less_hop lowered)) (egress_ports ingress s.sets) else [])
  forwards-there = ap (λ (t : Turned). t.forwards) there ∙ passed-from c.identity ingress s.sets lowered less h.is

  forwards-here : (turn c s ingress datagram).forwards ≡ (if is_forwarded c.identity ingress s.sets h.message then map (λ port. (port, with_less_hop datagram)) (egress_ports ingress s.sets) else [])
  forwards-here = ap (λ (t : Turned). t.forwards) here ∙ passed-from c.identity ingress s.sets datagram h.message h.read

  pub passed-alike : 0 < most → AreLowered (most - 1) (turn c s ingress datagram).forwards (turn c s ingress lowered).forwards
  passed-alike some =
      let left : nat_lt 0 most ≡ true = lt-ltb 0 most some in
      let had : nat_lt 0 h.message.hops ≡ true = lt-ltb 0 h.message.hops (omega (arith, some, h.fewer)) in
      let both : nat_lt 0 most ≡ nat_lt 0 h.message.hops = left ∙ sym had in
      let v : Message = h.message in
      let same : is_forwarded c.identity ingress s.sets less ≡ is_forwarded c.identity ingress s.sets v =
      ap (λ b. v.sdo == 0 && (v.domain == s.sets.default.domain && (not (same_clock v.source.clock c.identity) && (not (same_clock v.target.clock c.identity) && (b && may_forward ingress s.sets))))) both in
      let there' : (turn c s ingress lowered).forwards ≡ (if is_forwarded c.identity ingress s.sets v then map (λ port. (port, with_less_hop lowered)) (egress_ports ingress s.sets) else []) =
      forwards-there ∙ ap (λ b. if b then map (λ port. (port, with_less_hop lowered)) (egress_ports ingress s.sets) else []) same in
      subst (λ ms. AreLowered (most - 1) ms (turn c s ingress lowered).forwards) (sym forwards-here)
      (subst (λ ls. AreLowered (most - 1) (if is_forwarded c.identity ingress s.sets v then map (λ port. (port, with_less_hop datagram)) (egress_ports ingress s.sets) else []) ls) (sym there')
      (lowered-if (is_forwarded c.identity ingress s.sets v) (most - 1) (with_less_hop datagram) (with_less_hop lowered) (egress_ports ingress s.sets) (less-lowered most datagram lowered some h)))

never : (a b c d e : Bool) → a && (b && (c && (d && (false && e)))) ≡ false
never a b c d e = grind arith

pub none-passed : (c : Clock) (s : State) (ingress : ℕ) (datagram lowered : List ℕ) → IsLowered 0 datagram lowered
    → (turn c s ingress lowered).forwards ≡ []
none-passed c s ingress datagram lowered h =
    let v : Message = h.message in
    forwards-there c s ingress 0 datagram lowered h
    ∙ cond-false _ _ _ (never (v.sdo == 0) (v.domain == s.sets.default.domain) (not (same_clock v.source.clock c.identity)) (not (same_clock v.target.clock c.identity)) (may_forward ingress s.sets))
