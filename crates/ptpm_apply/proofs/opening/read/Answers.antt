use Rattle.std.proofs.Common.{◌≡◌, ℕ, ◌+◌, ◌∙◌, Err, IfErr, IsErrAnd, List, Ok, Option, Result, [], ◌∷◌, ap, arith, drop, inl, length, length-append, refl, subst, sym, true}
use Rattle.std.specs.Prelude.{IsSomeAnd}
use Rattle.ptpm_journal.specs.Journal.{MayTake, State, is_step, placed, taken}
use Rattle.ptpm_journal.specs.State.{state_of}
use Rattle.ptpm_journal.specs.Turns.{IsAtStep, IsRead}
use Rattle.ptpm_journal.specs.declared.reading.Found.{Found}
use Rattle.ptpm_journal.specs.declared.reading.Next.{Next}
use Rattle.ptpm_journal.specs.declared.record.Record.{Record}
use Rattle.ptpm_journal.specs.declared.record.Record.TheVariants as records
use Rattle.ptpm_apply.specs.Opening.{AreRead, IsRefusedBy, MayLackMemory, None_read, One_more, StepsAfter, Takes, no_record}
use Rattle.ptpm_apply.specs.declared.choice.OpenError.{OpenError}
use Rattle.ptpm_apply.specs.declared.choice.OpenError.TheVariants as opens
use Rattle.ptpm_apply.specs.declared.opening.Reading.{Reading}
use Rattle.ptpm_apply.specs.declared.planned.Planned.{Planned}
use Rattle.ptpm_apply.proofs.opening.read.Goals as goal

-- ---- it has as many steps as its journal

one_record : (e : Record) (first second : List ℕ) (s t : State) (old new : List Planned) → length old ≡ length s.steps
    → t ≡ taken s e → StepsAfter e first second old new → length new ≡ length t.steps
one_record (records.Step step port id) first second s t old new h is adds =
    let one = ap (λ (x : State). length x.steps) is in
    omega (arith, h, ap length adds.added, length-append old (adds.planned ∷ []), one, length-append s.steps (placed s.head step ∷ []))
one_record (records.Head head) first second s t old new h is same = ap length same ∙ h ∙ sym (ap (λ (x : State). length x.steps) is)
one_record (records.Note time note) first second s t old new h is same = ap length same ∙ h ∙ sym (ap (λ (x : State). length x.steps) is)
one_record (records.Policy time policy) first second s t old new h is same = ap length same ∙ h ∙ sym (ap (λ (x : State). length x.steps) is)
one_record (records.End time ending step) first second s t old new h is same = ap length same ∙ h ∙ sym (ap (λ (x : State). length x.steps) is)
one_record (records.Text what) first second s t old new h is same = ap length same ∙ h ∙ sym (ap (λ (x : State). length x.steps) is)

as_many : (octets : List ℕ) (place crc : ℕ) (s : State) (steps : List Planned) (numbers : List ℕ)
    → AreRead octets place s crc steps numbers → length steps ≡ length s.steps
as_many octets place crc s steps numbers None_read = refl
as_many octets place crc s steps numbers (One_more at sum later before after n old new numbered others read is takes) =
    one_record n.found.entry _ _ before after old new (as_many octets at sum before old numbered read) is.becomes takes.steps

pub records-init : goal.records-init
records-init c =
    let octets = c.args.octets.now in let steps = c.new-steps.result.items in let numbers = c.new-numbers.result.items in (
      omega arith,
      subst (λ (s : State). AreRead octets 0 s c.new-journal.result.crc steps numbers) (sym c.new-journal.ensures.state)
          (subst (λ (n : ℕ). AreRead octets 0 no_record n steps numbers) (sym c.new-journal.ensures.crc)
          (subst (λ (xs : List ℕ). AreRead octets 0 no_record 0 steps xs) (sym c.new-numbers.ensures.items)
          (subst (λ (xs : List Planned). AreRead octets 0 no_record 0 xs []) (sym c.new-steps.ensures.items) None_read))),
    )

pub records-preserved : goal.records-preserved
records-preserved c =
    let known = rw c.in-Ok-Some.field-0-is at (c.in-Ok-Some.ensures {u = tt}) in (
      omega (arith, known.within.1, c.split_at.ensures.back_len),
      One_more c.records.whole c.records.journal.crc c.next.new.self.crc (state_of c.records.journal) (state_of c.next.new.self)
          c.in-Ok-Some.next c.records.steps.items c.take.new.steps.items c.records.numbers.items c.take.new.numbers.items
          c.records.invariant.1
          (subst (λ (xs : List ℕ). IsRead (state_of c.records.journal) c.records.journal.crc xs c.in-Ok-Some.next
          (state_of c.next.new.self) c.next.new.self.crc) c.split_at.ensures.back known.read)
          (subst (λ (xs : List ℕ). Takes c.in-Ok-Some.next.found xs c.records.steps.items c.take.new.steps.items
          c.records.numbers.items c.take.new.numbers.items)
          (c.split_at-in-records.ensures.back ∙ ap (drop (c.in-Ok-Some.next.lead + 2)) c.split_at.ensures.back) c.in_ok-take.ensures.takes),
    )

-- ---- memory is refused at a step alone

at_step : (s t : State) (crc later : ℕ) (octets : List ℕ) (n : Next) → IsRead s crc octets n t later → is_step n.found.entry ≡ true
    → IsAtStep s crc octets
at_step s t crc later octets n read step = record {
  lead = n.lead;
  size = n.size;
  is_lead = read.lead;
  frame = read.frame;
  step = subst (λ (o : Option Found). IsSomeAnd o (λ f. MayTake s f.entry × (is_step f.entry ≡ true))) (sym read.found) (read.may, step);
}

refused_memory : (octets : List ℕ) (r : Result Reading OpenError) → IsErrAnd r (λ e. e ≡ opens.OutOfMemory) → MayLackMemory octets
    → IfErr r (IsRefusedBy octets)
refused_memory octets (Ok reading) is may = tt
refused_memory octets (Err refusal) is may = subst (IsRefusedBy octets) (sym is) may

pub returns-in_err-take-clause-refused : goal.returns-in_err-take-clause-refused
returns-in_err-take-clause-refused c =
    let known = rw c.in-Ok-Some.field-0-is at (c.in-Ok-Some.ensures {u = tt}) in
    let octets = c.args.octets.now in
    let before = state_of c.records.journal in
    refused_memory octets c.from_residual.result c.from_residual.ensures.1 (record {
      place = c.records.whole;
      crc = c.records.journal.crc;
      journal = before;
      steps = c.records.steps.items;
      numbers = c.records.numbers.items;
      are_read = c.records.invariant.1;
      comes = inl (at_step before (state_of c.next.new.self) c.records.journal.crc c.next.new.self.crc (drop c.records.whole octets)
          c.in-Ok-Some.next
          (subst (λ (xs : List ℕ). IsRead before c.records.journal.crc xs c.in-Ok-Some.next (state_of c.next.new.self) c.next.new.self.crc)
          c.split_at.ensures.back known.read)
          c.in_err-take.ensures.memory);
    })

pub returns-clause-few : goal.returns-clause-few
returns-clause-few c =
    let known = rw c.in-Ok-None.field-0-is at (c.in-Ok-None.ensures {u = tt}) in
    omega (
      arith,
      known.few,
      ap (λ (s : State). length s.steps) known.whole.1,
      as_many c.args.octets.now c.records.whole c.records.journal.crc (state_of c.records.journal) c.records.steps.items
          c.records.numbers.items c.records.invariant.1,
    )
