use Rattle.std.proofs.Common.{◌≡◌, ◌∙◌, ap, false, sym, true, Option}
use Rattle.std.specs.Prelude.{MatchResult}
use Rattle.ptpm_saved.specs.Image.{saved_of}
use Rattle.ptpm_saved.specs.SavingClock.{Datagram}
use Rattle.ptpm_host.specs.declared.refusal.ClockRestoreRefusal.TheVariants as refusals
use Rattle.ptpm_host.specs.Restoring.{IsBackWith}
use Rattle.ptpm_host.specs.SavingClock.{request_under_way}
use Rattle.ptpm_host.specs.UnderWay.{has_under_way}
use Rattle.ptpm_host.proofs.RestoredWith.{back_with, found_alone, found_with, match_both}
use Rattle.ptpm_host.proofs.clock.HostedClock.restored_boxed.Goals as goal

pub returns-then-has_under_way-clause-found : goal.returns-then-has_under_way-clause-found
returns-then-has_under_way-clause-found c = λ k u can.
    let has : has_under_way c.args.image.now ≡ true = sym c.has_under_way.ensures ∙ c.if-has_under_way.true in
    found_with (record { 0 = c.args.identity.now }) c.args.ports c.args.managers.now c.args.image.now k
    (λ (o : Option Datagram). MatchResult c.restored_with.result (λ r. IsBackWith k o c.args.managers.now r.0.value r.1) (λ e. e ≡ refusals.OutOfMemory))
    u has (λ x here. c.restored_with.ensures.found k x here) can

pub returns-then-has_under_way-clause-back : goal.returns-then-has_under_way-clause-back
returns-then-has_under_way-clause-back c = λ s can known.
    back_with c.restored_with.result (λ b. b.value) s c.args.managers.now
    (returns-then-has_under_way-clause-found c (saved_of s.state) s.under_way can) known

pub returns-else-has_under_way-clause-found : goal.returns-else-has_under_way-clause-found
returns-else-has_under_way-clause-found c = λ k u can.
    let has : has_under_way c.args.image.now ≡ false = sym c.has_under_way.ensures ∙ c.if-has_under_way.false in
    found_alone (record { 0 = c.args.identity.now }) c.args.ports c.args.managers.now c.args.image.now k
    (λ (o : Option Datagram). MatchResult c.restored_alone.result (λ r. IsBackWith k o c.args.managers.now r.0.value r.1) (λ e. e ≡ refusals.OutOfMemory))
    u has
    (λ here. match_both c.restored_alone.result _ _ _ _
    (λ r is none. record { clock = is; under_way_is = ap request_under_way none })
    (c.restored_alone.ensures.found k here) c.restored_alone.ensures.nothing)
    can

pub returns-else-has_under_way-clause-back : goal.returns-else-has_under_way-clause-back
returns-else-has_under_way-clause-back c = λ s can known.
    back_with c.restored_alone.result (λ b. b.value) s c.args.managers.now
    (returns-else-has_under_way-clause-found c (saved_of s.state) s.under_way can) known
