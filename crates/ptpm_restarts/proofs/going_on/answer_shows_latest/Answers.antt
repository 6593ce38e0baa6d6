use Rattle.ptpm_network.proofs.Common.{arith, by_test, ◌≡◌, ℕ, ◌+◌, ◌<◌, ◌==◌, nat_le, Bool, true, false, if◌then◌else◌, [], Option, Some, None, refl, sym, ◌∙◌, ap, subst, cond-true, cond-false, eqb-true, Message, State, Clock, Verdict, judged, is_numbered, request_of, look_at, look_by, same_request, Entry}
use Rattle.std.specs.Prelude.{◌≢◌}
use Rattle.std.specs.FinMap.{get}
use Rattle.ptpm_data.specs.Request.{RequestValue}
use Rattle.ptpm_table.specs.declared.reply_table.Look.{Look}
use Rattle.ptpm_table.specs.declared.reply_table.Look.TheVariants as looks
use Rattle.ptpm_table.specs.declared.serial.Serial.{Serial}
use Rattle.ptpm_table.specs.declared.serial.Serial.TheVariants.{Newer, Older, Same}
use Rattle.ptpm_table.specs.Entries.{HasEntry}
use Rattle.ptpm_table.specs.Numbering.{look_of}
use Rattle.ptpm_table.specs.Serial.{ahead, serial_of}
use Rattle.ptpm_table.proofs.SerialLaws.{order_of-newer, serial_in_window}
use Rattle.ptpm_agent.specs.declared.verdict.Verdict.TheVariants as verdicts
use Rattle.ptpm_agent.specs.Addressing.{heard_of}
use Rattle.ptpm_agent.specs.Turn.{entry_of, look, next_by, numbered_from, reply_by, reply_messages, verdict_at}
use Rattle.ptpm_agent.proofs.Entries.{get-insert_same}
use Rattle.ptpm_agent.proofs.Turns.{turn-message}
use Rattle.ptpm_restarts.proofs.going_on.answer_shows_latest.Goals as goal

-- ---- a repeat has the number that is kept

serial-same : (a b : ℕ) → a < 65536 → b < 65536 → serial_of a b ≡ Same → a ≡ b
unfolding serial_of
serial-same a b few less is = by_test (ahead a b == 0)
    (λ y. let none : ahead a b ≡ 0 = eqb-true (ahead a b) 0 y in omega (arith, none))
    (λ o. by_test (nat_le (ahead a b) 32767)
    (λ y. absurd (cc (sym (cond-false _ _ _ o ∙ cond-true _ _ _ y) ∙ is)))
    (λ n. absurd (cc (sym (cond-false _ _ _ o ∙ cond-false _ _ _ n) ∙ is))))

repeat-same : (z : Serial) (same : Bool) → look_by z same ≡ looks.Repeat → z ≡ Same
repeat-same Same same is = refl
repeat-same Newer same is = absurd (cc)
repeat-same Older same is = absurd (cc)

repeat-entry : (o : Option Entry) (number : ℕ) (q : RequestValue) → look_at o number q ≡ looks.Repeat
    → (e : Entry) × (o ≡ Some e) × (serial_of e.number number ≡ Same)
repeat-entry None number q is = absurd (cc)
repeat-entry (Some e) number q is = (e, refl, repeat-same (serial_of e.number number) (same_request e.request q) is)

-- ---- what a verdict says of that

abbrev verdict_if : Bool → Bool → Bool → Bool → Look → Verdict
verdict_if other own elsewhere reply l =
    if other then verdicts.OtherDomain else if own then verdicts.OwnMessage else if elsewhere then verdicts.NotAddressed
    else if reply then verdicts.NotARequest else verdict_at l

repeat-verdict : (other own elsewhere reply : Bool) (l : Look) → verdict_if other own elsewhere reply l ≡ verdicts.AnsweredRepeat → l ≡ looks.Repeat
repeat-verdict true own elsewhere reply l is = absurd (cc)
repeat-verdict false true elsewhere reply l is = absurd (cc)
repeat-verdict false false true reply l is = absurd (cc)
repeat-verdict false false false true l is = absurd (cc)
repeat-verdict false false false false looks.Repeat is = refl
repeat-verdict false false false false _ is = absurd (cc)

unnumbered-verdict : (other own elsewhere reply : Bool) (l : Look) → verdict_if other own elsewhere reply l ≡ verdicts.AnsweredUnnumbered → l ≡ looks.Unknown
unnumbered-verdict true own elsewhere reply l is = absurd (cc)
unnumbered-verdict false true elsewhere reply l is = absurd (cc)
unnumbered-verdict false false true reply l is = absurd (cc)
unnumbered-verdict false false false true l is = absurd (cc)
unnumbered-verdict false false false false looks.Unknown is = refl
unnumbered-verdict false false false false _ is = absurd (cc)

known-serial : (z : Serial) (same : Bool) → look_by z same ≡ looks.Unknown → ⊥
known-serial Same true is = absurd (cc)
known-serial Same false is = absurd (cc)
known-serial Newer same is = absurd (cc)
known-serial Older same is = absurd (cc)

known-look : (o : Option Entry) (number : ℕ) (q : RequestValue) → look_at o number q ≡ looks.Unknown → ⊥
known-look None number q is = absurd (cc)
known-look (Some e) number q is = known-serial (serial_of e.number number) (same_request e.request q) is

module _ (c : Clock) (s : State) (ingress : ℕ) (v : Message) (numbered : is_numbered c v ≡ true) (number : v.number < 65536)
    (kept : (e : Entry) → get s.entries v.source ≡ Some e → e.number < 65536) where
  numbered-look : look c s v ≡ look_at (get s.entries v.source) v.number (request_of v)
  numbered-look = ap (λ (b : Bool). look_of b (get s.entries v.source) v.number (request_of v)) numbered

  repeated : look c s v ≡ looks.Repeat → HasEntry s.entries v.source v.number
  repeated is =
      let entry = repeat-entry (get s.entries v.source) v.number (request_of v) (sym numbered-look ∙ is) in
      record { entry = entry.0; is = entry.1; number_is = serial-same entry.0.number v.number (kept entry.0 entry.1) number entry.2 }

  latest-by : (w : Verdict) → judged c s v ≡ w → reply_messages c ingress (heard_of v) (reply_by w c s v) ≢ []
      → HasEntry (next_by w c s v).entries v.source v.number
  unfolding judged
  latest-by verdicts.AnsweredNew is some = record {
    entry = entry_of c s (numbered_from v);
    is = get-insert_same s.entries v.source (entry_of c s (numbered_from v));
    number_is = refl;
  }
  latest-by verdicts.AnsweredRepeat is some = repeated (repeat-verdict _ _ _ _ (look c s v) is)
  latest-by verdicts.AnsweredUnnumbered is some =
      absurd (known-look (get s.entries v.source) v.number (request_of v) (sym numbered-look ∙ unnumbered-verdict _ _ _ _ (look c s v) is))
  latest-by _ is some = absurd (some refl)

pub returns-clause-latest : goal.returns-clause-latest
returns-clause-latest x = λ c s ingress datagram v is numbered number kept.
    subst (λ t. t.replies ≢ [] → HasEntry t.next.entries v.source v.number) (sym (turn-message c s ingress datagram v is))
    (λ some. latest-by c s ingress v numbered number kept (judged c s v) refl some)

pub returns-clause-next : goal.returns-clause-next
returns-clause-next x = λ c s w n k numbered entry number positive near.
    ap (λ (b : Bool). look_of b (get s.entries w.source) w.number (request_of w)) numbered
    ∙ ap (λ (o : Option Entry). look_at o w.number (request_of w)) entry.is
    ∙ ap (λ (z : Serial). look_by z (same_request entry.entry.request (request_of w)))
    ((λ i. serial_of (entry.number_is i) (number i))
    ∙ serial_in_window n (n + k) (record { not_far_ahead = omega arith; not_far_behind = omega arith }) ∙ order_of-newer n (n + k) (omega arith))
