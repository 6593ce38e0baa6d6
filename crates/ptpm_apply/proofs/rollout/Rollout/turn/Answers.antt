-- Each turn of a change of several clocks is a move that it may make.
use Rattle.std.proofs.Common.{◌≡◌, ◌+◌, ◌<◌, ℕ, Bool, true, false, List, [], length, refl, sym, subst, inl, inr, Option, Some, None, nat_lt, if◌then◌else◌, arith}
use Rattle.std.specs.Prelude.{◌&&◌, ◌==◌}
use Rattle.std.proofs.lemmas.Bool.{and_parts, ltb-false}
use Rattle.ptpm_journal.specs.declared.record.Ending.{Ending}
use Rattle.ptpm_journal.specs.declared.record.Record.{Record}
use Rattle.ptpm_journal.specs.Journal.{MayTake, State, goes_on, may_end}
use Rattle.ptpm_apply.specs.declared.action.Why.{Why}
use Rattle.ptpm_apply.specs.declared.choice.Choice.{Choice}
use Rattle.ptpm_apply.specs.declared.event.Event.{Event}
use Rattle.ptpm_apply.specs.declared.heard.Heard.{Heard}
use Rattle.ptpm_apply.specs.declared.stage.Stage.{Stage}
use Rattle.ptpm_apply.specs.declared.stage.Then.{Then}
use Rattle.ptpm_apply.specs.declared.standing.Standing.{Standing}
use Rattle.ptpm_apply.specs.Going.{AreDone, BegunIn, ChangingBy, EndsBy, FailingBy, Going, Looks, Checks, Reads, Leaves, Verifies, Ends, Waits, Settles}
use Rattle.ptpm_apply.specs.Moves.{IsFit, IsMove, IsMoveTo, IsReadAll, IsVerified}
use Rattle.ptpm_apply.specs.Rollout.{Fits, IsBegun, RolloutValue, at, domain_of, ended, held, lane_of, noted_with, place_of}
use Rattle.ptpm_apply.specs.Turning.{BegunAt, CheckedAt, DoneAt, Follows, FoundAt, GivesUp, HeardAt, SeekingBy, SeekingIn, SeesBy, SeesTo, Turned, Yields, heard_value, is_wanted, is_wanted_at, numbered, seen_at, told, yielded}
use Rattle.ptpm_journal.specs.declared.record.Ending.TheVariants as endings
use Rattle.ptpm_journal.specs.declared.record.Note.TheVariants as notes
use Rattle.ptpm_journal.specs.declared.record.Record.TheVariants as records
use Rattle.ptpm_apply.specs.declared.action.Over.TheVariants as overs
use Rattle.ptpm_apply.specs.declared.action.Why.TheVariants as whys
use Rattle.ptpm_apply.specs.declared.choice.Choice.TheVariants as choices
use Rattle.ptpm_apply.specs.declared.event.Event.TheVariants as events
use Rattle.ptpm_apply.specs.declared.heard.Heard.TheVariants as hears
use Rattle.ptpm_apply.specs.declared.stage.Stage.TheVariants as stages
use Rattle.ptpm_apply.specs.declared.stage.Then.TheVariants as thens
use Rattle.ptpm_apply.specs.declared.standing.Standing.TheVariants as standings
use Rattle.ptpm_apply.proofs.rollout.Rollout.turn.Goals as goal

-- another value with the same journal and the same steps
record IsAlike (o x : RolloutValue) : Type 0 where
  journal : x.journal ≡ o.journal
  crc : x.crc ≡ o.crc
  steps : x.steps ≡ o.steps

alike : (o : RolloutValue) → IsAlike o o
alike o = record { journal = refl; crc = refl; steps = refl }

-- what follows a plain change of the stage
moved : (o x v : RolloutValue) (e : Event) (s : Stage) → v ≡ at x s → IsMoveTo o e (at x s) s → IsMove o e v
moved o x v e s h m = subst (λ (y : RolloutValue). IsMove o e y) (sym h) m

noting : (o x v : RolloutValue) (e : Event) (entry : Record) (octets : List ℕ) (next : Then) → IsAlike o x → MayTake o.journal entry
    → IsVerified o e next → v ≡ noted_with x entry octets next → IsMove o e v
noting o x v e entry octets next like may verified h =
    subst (λ (y : RolloutValue). IsMove o e y) (sym h)
    (record { entry = entry; octets = octets; may = may; becomes = cc (like.journal); noted = cc (like.journal, like.crc); crc = cc (like.crc) }, verified)

ending_by : (b : Bool) (o x v : RolloutValue) (e : Event) (time : ℕ) (ending : Ending) (step : Option ℕ) → IsAlike o x
    → IsReadAll o e ending → (b ≡ true → MayTake o.journal (records.End time ending (place_of step)))
    → v ≡ (if b then noted_with x (records.End time ending (place_of step)) [] (thens.End ending step)
    else at x (stages.Over (overs.Open whys.Silent step)))
    → IsMove o e v
ending_by true o x v e time ending step like all may h =
    noting o x v e (records.End time ending (place_of step)) [] (thens.End ending step) like (may refl) all h
ending_by false o x v e time ending step like all may h =
    moved o x v e (stages.Over (overs.Open whys.Silent step)) h (like.journal, tt)

ending_moves : (o x v : RolloutValue) (e : Event) (time : ℕ) (ending : Ending) (step : Option ℕ) → IsAlike o x
    → IsReadAll o e ending → v ≡ ended time x ending step → IsMove o e v
ending_moves o x v e time ending step like all h =
    ending_by (goes_on x.journal && may_end x.journal.marks ending (place_of step)) o x v e time ending step like all
    (λ t. subst (λ (s : State). MayTake s (records.End time ending (place_of step))) like.journal
    (and_parts (goes_on x.journal) (may_end x.journal.marks ending (place_of step)) t))
    h

read_all : (o x : RolloutValue) (e : Event) (ending : Ending) (step : Option ℕ) → IsAlike o x → EndsBy x ending step → IsReadAll o e ending
read_all o x e endings.Complete step like h = inl (subst (λ (xs : _). length xs ≡ 0) like.steps h)
read_all o x e endings.Refused step like h = tt
read_all o x e endings.Answered step like h = tt
read_all o x e endings.Changed step like h = tt
read_all o x e endings.GivenUp step like h = tt
read_all o x e endings.RolledBack step like h = tt
read_all o x e endings.Stopped step like h = tt
read_all o x e endings.InPart step like h = tt

going_moves : (o x v : RolloutValue) (e : Event) (time : ℕ) → IsAlike o x → Going time x v → IsMove o e v
going_moves o x v e time like (Looks lane h a b c d f) = moved o x v e (stages.Looking lane) h like.journal
going_moves o x v e time like (Checks step h a b c d f g i) = moved o x v e (stages.Checking step) h like.journal
going_moves o x v e time like (Reads step h a b c d f g i) = moved o x v e (stages.Reading step) h like.journal
going_moves o x v e time like (Leaves lane h a b c d) = subst (λ (y : RolloutValue). IsMove o e y) (sym h) like.journal
going_moves o x v e time like (Verifies h a done c d i) =
    moved o x v e (stages.Verifying 0) h (like.journal, inl (refl, subst (λ (s : State). AreDone s) like.journal done))
going_moves o x v e time like (Ends ending step h by a i) = ending_moves o x v e time ending step like (read_all o x e ending step like by) h
going_moves o x v e time like (Waits h a b c d f) = moved o x v e (stages.Over (overs.Open whys.Silent None)) h (like.journal, tt)
going_moves o x v e time like (Settles h a n) = moved o x v e (stages.Over overs.Settled) h (like.journal, tt)

failing_moves : (c : Choice) (o x v : RolloutValue) (e : Event) (time : ℕ) (why : Why) (lane : ℕ) (step : Option ℕ) → IsAlike o x
    → FailingBy c time x why lane step v → IsMove o e v
failing_moves choices.Stop o x v e time why lane step like h = moved o x v e (stages.Over (overs.Open why step)) h (like.journal, tt)
failing_moves choices.KeepGoing o x v e time why lane step like h =
    going_moves o (held x lane) v e time (record { journal = like.journal; crc = like.crc; steps = like.steps }) h
failing_moves choices.GiveUp o x v e time why lane step like h = moved o x v e (stages.Over (overs.Open why step)) h (like.journal, tt)
failing_moves choices.Settle o x v e time why lane step like h = moved o x v e (stages.Over (overs.Open why step)) h (like.journal, tt)

changing_moves : (c : Choice) (o v : RolloutValue) (e : Event) (time step : ℕ) → ChangingBy c time o step v → IsMove o e v
changing_moves choices.Stop o v e time step h = ending_moves o o v e time endings.Changed (Some step) (alike o) tt h
changing_moves choices.KeepGoing o v e time step h =
    going_moves o (held o (lane_of o step)) v e time (record { journal = refl; crc = refl; steps = refl }) h
changing_moves choices.GiveUp o v e time step h = ending_moves o o v e time endings.Changed (Some step) (alike o) tt h
changing_moves choices.Settle o v e time step h = ending_moves o o v e time endings.Changed (Some step) (alike o) tt h

-- ---- what is heard

told_moves : (o v : RolloutValue) (e : Event) (time step : ℕ) (h : Heard) (octets : List ℕ) → IsBegun o.journal step
    → v ≡ told time o step h octets → IsMove o e v
told_moves o v e time step hears.Wanted octets begun h = noting o o v e _ _ (thens.Rest step) (alike o) begun tt h
told_moves o v e time step hears.Other octets begun h = noting o o v e _ _ (thens.Rest step) (alike o) begun tt h
told_moves o v e time step (hears.Refused error) octets begun h = noting o o v e _ _ (thens.Rest step) (alike o) begun tt h
told_moves o v e time step hears.Silent octets begun h = noting o o v e _ _ (thens.Rest step) (alike o) begun tt h
told_moves o v e time step hears.Unsent octets begun h = noting o o v e _ _ (thens.Rest step) (alike o) begun tt h

seeking_by : (b : Bool) (o v : RolloutValue) (e : Event) (time step domain : ℕ) → SeekingBy b time o step domain v → IsMove o e v
seeking_by true o v e time step domain h = failing_moves o.choice o o v e time whys.Silent (lane_of o step) (Some step) (alike o) h
seeking_by false o v e time step domain h = moved o o v e (stages.Settling step domain) h refl

seeking_moves : (m : Option ℕ) (o v : RolloutValue) (e : Event) (time step domain : ℕ) → SeekingIn m time o step domain v → IsMove o e v
seeking_moves None o v e time step domain h = failing_moves o.choice o o v e time whys.Silent (lane_of o step) (Some step) (alike o) h
seeking_moves (Some there) o v e time step domain h = seeking_by (there == domain) o v e time step there h

yielded_moves : (changes : Bool) (o v : RolloutValue) (e : Event) (lane : ℕ) → v ≡ yielded o lane changes → IsMove o e v
yielded_moves true o v e lane h = subst (λ (y : RolloutValue). IsMove o e y) (sym h) refl
yielded_moves false o v e lane h = moved o o v e (stages.Resting lane) h refl

after_moves : (b : Bool) (o v : RolloutValue) (e : Event) (time step : ℕ) → (nat_lt (step + 1) (length o.steps) ≡ b) → step < length o.steps
    → o.stage ≡ stages.Verifying step → is_wanted o e ≡ true
    → v ≡ (if b then at o (stages.Verifying (step + 1)) else ended time o endings.Complete None) → IsMove o e v
after_moves true o v e time step is less stage wanted h =
    moved o o v e (stages.Verifying (step + 1)) h (refl, inr (record { last = step; is_next = refl; read = stage; wanted = wanted }))
after_moves false o v e time step is less stage wanted h =
    let last : step + 1 ≡ length o.steps = omega (arith, ltb-false (step + 1) (length o.steps) is) in
    ending_moves o o v e time endings.Complete None (alike o) (inr (record { last = step; is_last = last; read = stage; wanted = wanted })) h

abbrev IsFitAt : RolloutValue → Stage → Type 0
IsFitAt o s = Fits o.journal (length o.lanes) (length o.steps) s

heard_moves : (s : Stage) (h : Heard) (o v : RolloutValue) (e : Event) (time : ℕ) (octets : List ℕ) → o.stage ≡ s → IsFitAt o s
    → (h ≡ hears.Wanted → is_wanted o e ≡ true) → HeardAt time o s h octets v → IsMove o e v
heard_moves (stages.Reading step) hears.Wanted o v e time octets is fits wanted h =
    moved o o v e (stages.Asking step) h (refl, fits, is, wanted refl)
heard_moves (stages.Reading step) hears.Other o v e time octets is fits wanted h = changing_moves o.choice o v e time step h
heard_moves (stages.Reading step) (hears.Refused error) o v e time octets is fits wanted h = changing_moves o.choice o v e time step h
heard_moves (stages.Reading step) hears.Silent o v e time octets is fits wanted h =
    failing_moves o.choice o o v e time whys.Silent (lane_of o step) (Some step) (alike o) h
heard_moves (stages.Reading step) hears.Unsent o v e time octets is fits wanted h =
    failing_moves o.choice o o v e time whys.Silent (lane_of o step) (Some step) (alike o) h
heard_moves (stages.Verifying step) hears.Wanted o v e time octets is fits wanted h =
    after_moves (nat_lt (step + 1) (length o.steps)) o v e time step refl fits is (wanted refl) h
heard_moves (stages.Verifying step) hears.Other o v e time octets is fits wanted h =
    ending_moves o o v e time endings.Changed (Some step) (alike o) tt h
heard_moves (stages.Verifying step) (hears.Refused error) o v e time octets is fits wanted h =
    ending_moves o o v e time endings.Changed (Some step) (alike o) tt h
heard_moves (stages.Verifying step) hears.Silent o v e time octets is fits wanted h =
    moved o o v e (stages.Over (overs.Open whys.Silent (Some step))) h (refl, tt)
heard_moves (stages.Verifying step) hears.Unsent o v e time octets is fits wanted h =
    moved o o v e (stages.Over (overs.Open whys.Silent (Some step))) h (refl, tt)
heard_moves (stages.Answering step) hears.Unsent o v e time octets is fits wanted h =
    noting o o v e (records.Note time (notes.NotBegun step)) [] (thens.Fail step) (alike o) fits tt h
heard_moves (stages.Answering step) hears.Silent o v e time octets is fits wanted h = seeking_moves _ o v e time step (domain_of o step) h
heard_moves (stages.Answering step) hears.Wanted o v e time octets is fits wanted h = told_moves o v e time step hears.Wanted octets fits h
heard_moves (stages.Answering step) hears.Other o v e time octets is fits wanted h = told_moves o v e time step hears.Other octets fits h
heard_moves (stages.Answering step) (hears.Refused error) o v e time octets is fits wanted h =
    told_moves o v e time step (hears.Refused error) octets fits h
heard_moves (stages.Settling step domain) hears.Unsent o v e time octets is fits wanted h = seeking_moves _ o v e time step domain h
heard_moves (stages.Settling step domain) hears.Silent o v e time octets is fits wanted h = seeking_moves _ o v e time step domain h
heard_moves (stages.Settling step domain) hears.Wanted o v e time octets is fits wanted h = told_moves o v e time step hears.Wanted octets fits h
heard_moves (stages.Settling step domain) hears.Other o v e time octets is fits wanted h = told_moves o v e time step hears.Other octets fits h
heard_moves (stages.Settling step domain) (hears.Refused error) o v e time octets is fits wanted h =
    told_moves o v e time step (hears.Refused error) octets fits h
heard_moves (stages.Yielding lane domain changes) hears.Wanted o v e time octets is fits wanted h = yielded_moves changes o v e lane h
heard_moves (stages.Yielding lane domain changes) hears.Other o v e time octets is fits wanted h = yielded_moves changes o v e lane h
heard_moves (stages.Yielding lane domain changes) (hears.Refused error) o v e time octets is fits wanted h = yielded_moves changes o v e lane h
heard_moves (stages.Yielding lane domain changes) hears.Silent o v e time octets is fits wanted h =
    failing_moves o.choice o o v e time whys.Silent lane None (alike o) h
heard_moves (stages.Yielding lane domain changes) hears.Unsent o v e time octets is fits wanted h =
    failing_moves o.choice o o v e time whys.Silent lane None (alike o) h
heard_moves (stages.Asking step) h o v e time octets is fits wanted f =
    failing_moves o.choice o o v e time whys.Silent (lane_of o step) (Some step) (alike o) f
heard_moves _ h o v e time octets is fits wanted f = absurd f

-- ---- what an earlier run left

yields_moves : (o x v : RolloutValue) (e : Event) (lane : ℕ) (changes : Bool) → IsAlike o x → Yields x lane changes v → IsMove o e v
yields_moves o x v e lane changes like h = moved o x v e (stages.Yielding lane h.0 changes) h.2 like.journal

sees_moves : (s : Standing) (begun : Option ℕ) (o x v : RolloutValue) (e : Event) (time lane : ℕ) (changes : Bool) → IsAlike o x
    → ((step : ℕ) → begun ≡ Some step → IsBegun o.journal step) → SeesTo time x lane s begun changes v → IsMove o e v
sees_moves standings.UnderWay (Some step) o x v e time lane changes like is h = moved o x v e (stages.Settling step (domain_of x step)) h like.journal
sees_moves standings.NeverBegun (Some step) o x v e time lane changes like is h = noting o x v e _ _ thens.GoOn like (is step refl) tt h
sees_moves standings.NumberTaken (Some step) o x v e time lane changes like is h =
    noting o x v e _ _ (thens.Yield lane changes) like (is step refl) tt h
sees_moves standings.Told begun o x v e time lane changes like is h = moved o x v e (stages.LettingGo lane) h like.journal
sees_moves standings.OfAnother begun o x v e time lane changes like is h = yields_moves o x v e lane changes like h
sees_moves standings.Unknown begun o x v e time lane changes like is h = failing_moves x.choice o x v e time whys.Unknown lane begun like h
sees_moves standings.NothingLeft begun o x v e time lane changes like is h = going_moves o x v e time like h
sees_moves standings.UnderWay None o x v e time lane changes like is h = going_moves o x v e time like h
sees_moves standings.NeverBegun None o x v e time lane changes like is h = going_moves o x v e time like h
sees_moves standings.NumberTaken None o x v e time lane changes like is h = going_moves o x v e time like h

gives_moves : (s : Standing) (begun : Option ℕ) (o x v : RolloutValue) (e : Event) (time lane : ℕ) → IsAlike o x
    → ((step : ℕ) → begun ≡ Some step → IsBegun o.journal step) → GivesUp time x lane s begun v → IsMove o e v
gives_moves standings.NeverBegun (Some step) o x v e time lane like is h = noting o x v e _ _ thens.GoOn like (is step refl) tt h
gives_moves standings.NumberTaken (Some step) o x v e time lane like is h = noting o x v e _ _ thens.GoOn like (is step refl) tt h
gives_moves standings.UnderWay (Some step) o x v e time lane like is h = noting o x v e _ _ (thens.LetGo lane) like (is step refl) tt h
gives_moves _ (Some step) o x v e time lane like is h = noting o x v e _ _ thens.GoOn like (is step refl) tt h
gives_moves standings.UnderWay None o x v e time lane like is h = moved o x v e (stages.LettingGo lane) h like.journal
gives_moves standings.Told None o x v e time lane like is h = moved o x v e (stages.LettingGo lane) h like.journal
gives_moves _ None o x v e time lane like is h = going_moves o x v e time like h

sees_by : (c : Choice) (s : Standing) (begun : Option ℕ) (o x v : RolloutValue) (e : Event) (time lane : ℕ) (changes : Bool) → IsAlike o x
    → ((step : ℕ) → begun ≡ Some step → IsBegun o.journal step) → SeesBy c time x lane s begun changes v → IsMove o e v
sees_by choices.GiveUp s begun o x v e time lane changes like is h = gives_moves s begun o x v e time lane like is h
sees_by choices.Stop s begun o x v e time lane changes like is h = sees_moves s begun o x v e time lane changes like is h
sees_by choices.KeepGoing s begun o x v e time lane changes like is h = sees_moves s begun o x v e time lane changes like is h
sees_by choices.Settle s begun o x v e time lane changes like is h = sees_moves s begun o x v e time lane changes like is h

is_begun_in : (begun : Option ℕ) (o : RolloutValue) (lane step : ℕ) → BegunIn o lane begun → begun ≡ Some step → IsBegun o.journal step
is_begun_in None o lane step h is = absurd (cc is)
is_begun_in (Some other) o lane step h is =
    let same : other ≡ step = cc is in subst (λ (n : ℕ). IsBegun o.journal n) same h.2

found_moves : (s : Stage) (o v : RolloutValue) (e : Event) (time : ℕ) (image : List ℕ) → FoundAt time o s image v → IsMove o e v
found_moves (stages.Looking lane) o v e time image h =
    sees_by o.choice _ h.begun o (seen_at o lane) v e time lane _ (record { journal = refl; crc = refl; steps = refl })
    (λ step is. is_begun_in h.begun o lane step h.is_begun is) h.sees
found_moves _ o v e time image h = absurd h

-- ---- what else comes

follows_moves : (n : Then) (o v : RolloutValue) (e : Event) (time : ℕ) → o.stage ≡ stages.Noting n → Follows time o n v → IsMove o e v
follows_moves (thens.Send step) o v e time is h = moved o o v e (stages.Answering step) h refl
follows_moves (thens.Rest step) o v e time is h = moved o o v e (stages.Resting (lane_of o step)) h refl
follows_moves (thens.Fail step) o v e time is h = failing_moves o.choice o o v e time whys.Silent (lane_of o step) (Some step) (alike o) h
follows_moves thens.GoOn o v e time is h = going_moves o o v e time (alike o) h
follows_moves (thens.Yield lane changes) o v e time is h = yields_moves o o v e lane changes (alike o) h
follows_moves (thens.LetGo lane) o v e time is h = moved o o v e (stages.LettingGo lane) h refl
follows_moves (thens.End ending step) o v e time is h = moved o o v e (stages.Over (overs.Ended ending step)) h (refl, is)

done_moves : (s : Stage) (o v : RolloutValue) (e : Event) (time : ℕ) → o.stage ≡ s → DoneAt time o s v → IsMove o e v
done_moves (stages.Noting n) o v e time is h = follows_moves n o v e time is h
done_moves (stages.LettingGo lane) o v e time is h = going_moves o o v e time (alike o) h
done_moves (stages.Resting lane) o v e time is h = going_moves o o v e time (alike o) h
done_moves (stages.Leaving lane) o v e time is h = going_moves o o v e time (alike o) h
done_moves _ o v e time is h = absurd h

checked_by : (b : Bool) (o v : RolloutValue) (e : Event) (time step : ℕ)
    → v ≡ (if b then at o (stages.Reading step) else ended time o endings.Stopped (Some step)) → IsMove o e v
checked_by true o v e time step h = moved o o v e (stages.Reading step) h refl
checked_by false o v e time step h = ending_moves o o v e time endings.Stopped (Some step) (alike o) tt h

checked_moves : (s : Stage) (passes : Bool) (o v : RolloutValue) (e : Event) (time : ℕ) → CheckedAt time o s passes v → IsMove o e v
checked_moves (stages.Checking step) passes o v e time h = checked_by passes o v e time step h
checked_moves _ passes o v e time h = absurd h

begun_moves : (s : Stage) (o v : RolloutValue) (e : Event) (time number : ℕ) → IsFitAt o s → BegunAt time o s number v → IsMove o e v
begun_moves (stages.Asking step) o v e time number fits h =
    noting o (numbered o step number) v e (records.Note time (notes.Begun step number)) [] (thens.Send step)
    (record { journal = refl; crc = refl; steps = refl }) fits tt h
begun_moves _ o v e time number fits h = absurd h

value_wanted : (b : Bool) → heard_value b ≡ hears.Wanted → b ≡ true
value_wanted true h = refl
value_wanted false h = cc h

turned_moves : (time : ℕ) (o : RolloutValue) (e : Event) (v : RolloutValue) → IsFit o → Turned time o e v → IsMove o e v
turned_moves time o events.Begin v fits h = going_moves o o v events.Begin time (alike o) h
turned_moves time o (events.Found image) v fits h = found_moves o.stage o v (events.Found image) time image.now h
turned_moves time o (events.Begins number) v fits h = begun_moves o.stage o v (events.Begins number) time number fits h
turned_moves time o events.Unsent v fits h = heard_moves o.stage hears.Unsent o v events.Unsent time [] refl fits (λ w. cc w) h
turned_moves time o (events.Value octets) v fits h =
    heard_moves o.stage (heard_value (is_wanted_at o o.stage octets.now)) o v (events.Value octets) time octets.now refl fits
    (value_wanted (is_wanted_at o o.stage octets.now)) h
turned_moves time o (events.Refused error) v fits h =
    heard_moves o.stage (hears.Refused error) o v (events.Refused error) time [] refl fits (λ w. cc w) h
turned_moves time o events.Silent v fits h = heard_moves o.stage hears.Silent o v events.Silent time [] refl fits (λ w. cc w) h
turned_moves time o events.Done v fits h = done_moves o.stage o v events.Done time refl h
turned_moves time o (events.Checked passes) v fits h = checked_moves o.stage passes o v (events.Checked passes) time h
turned_moves time o events.NotWritten v fits h = moved o o v events.NotWritten (stages.Over (overs.Open whys.NotWritten None)) h (refl, tt)
turned_moves time o events.Interrupted v fits h = moved o o v events.Interrupted (stages.Over (overs.Open whys.Interrupted None)) h (refl, tt)

pub returns-clause-moves : goal.returns-clause-moves
returns-clause-moves c =
    turned_moves c.args.time c.args.self.now c.args.event c.handle.new.self
    (subst (λ (o : RolloutValue). IsFit o) c.self.view_is c.self.invariant.fits) c.handle.ensures
