use Rattle.std.proofs.Common.{arith, ◌+◌, ◌%◌, ap, length, refl, take, List, ℕ}
use Rattle.std.proofs.lemmas.Bool.{false≢true}
use Rattle.ptpm_saved.specs.Image.{clock_image}
use Rattle.ptpm_saved.specs.SavingClock.{Datagram}
use Rattle.ptpm_host.specs.Clock.{state_in}
use Rattle.ptpm_host.proofs.RestoredWith.{image_length, written}
use Rattle.ptpm_host.proofs.clock.HostedClock.image_with.Goals as goal

pub returns-then-octets-start-clause-room : goal.returns-then-octets-start-clause-room
returns-then-octets-start-clause-room c =
    let x : Datagram = (c.args.under_way.now.port, take c.args.under_way.now.size c.args.under_way.now.octets) in
    let size = image_length x (clock_image (state_in c.args.self.now)) in
    let message = ap (λ (l : List ℕ). length l) c.message.ensures.message in
    ((λ none. absurd (false≢true none)), λ fits. absurd (omega (arith, fits, size, message, c.if-octets-start.true)))

pub returns-in-Some-clause-room : goal.returns-in-Some-clause-room
returns-in-Some-clause-room c =
    let x : Datagram = (c.args.under_way.now.port, take c.args.under_way.now.size c.args.under_way.now.octets) in
    let size = image_length x (clock_image (state_in c.args.self.now)) in
    let message = ap (λ (l : List ℕ). length l) c.message.ensures.message in
    ((λ some. omega (arith, size, message, c.split_at_mut-front.ensures.back_len, c.in-Some.ensures.room.0 refl)), λ fits. refl)

pub returns-in-None-clause-room : goal.returns-in-None-clause-room
returns-in-None-clause-room c =
    let x : Datagram = (c.args.under_way.now.port, take c.args.under_way.now.size c.args.under_way.now.octets) in
    let size = image_length x (clock_image (state_in c.args.self.now)) in
    let message = ap (λ (l : List ℕ). length l) c.message.ensures.message in (
      (λ none. absurd (false≢true none)),
      λ fits. c.in-None.ensures.room.1 (omega (arith, fits, size, message, c.split_at_mut-front.ensures.back_len)),
    )

pub returns-in-Some-clause-size : goal.returns-in-Some-clause-size
returns-in-Some-clause-size c =
    let x : Datagram = (c.args.under_way.now.port, take c.args.under_way.now.size c.args.under_way.now.octets) in
    omega (arith, image_length x (clock_image (state_in c.args.self.now)), ap (λ (l : List ℕ). length l) c.message.ensures.message, c.in-Some.ensures.size)

pub returns-in-Some-clause-octets : goal.returns-in-Some-clause-octets
returns-in-Some-clause-octets c =
    let x : Datagram = (c.args.under_way.now.port, take c.args.under_way.now.size c.args.under_way.now.octets) in
    let image = clock_image (state_in c.args.self.now) in
    let message = ap (λ (l : List ℕ). length l) c.message.ensures.message in
    written x image c.args.octets.now _ c.write_front.new.place c.image_into.new.place _ c.in-Some.size (16 + length c.message.result.now)
    c.write_front.ensures
    (ap (λ n. n % 4294967296) (omega (arith, message, c.in-Some.ensures.size)))
    c.in-Some.ensures.octets c.split_at_mut-front.ensures.back
