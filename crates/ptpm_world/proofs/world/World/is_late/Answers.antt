use Rattle.ptpm_world.proofs.Common.{arith, ◌≡◌, ℕ, Bool, Some, ap, length, sym, ◌∙◌, frame_at, is_late_held, is_late_of, frame_value, held_in, origin_of, port_counts, running, World}
use Rattle.ptpm_world.specs.declared.frames.Frame.{Frame}
use Rattle.ptpm_world.specs.declared.frames.Origin.{Origin}
use Rattle.ptpm_world.proofs.Telling.{late-after}
use Rattle.ptpm_world.proofs.WorldLemmas.{late-there, origin_there}
use Rattle.ptpm_world.proofs.world.World.is_late.Goals as goal

pub is_left_behind-requires : goal.is_left_behind-requires
is_left_behind-requires c =
    let w = c.args.self.now in
    let f = c.in-Some.frame in
    origin_there (port_counts w.clocks.items) (length w.sessions.items) w.frames c.args.number (frame_value f) c.origin.result w.frames_there
    (sym c.in-Some.ensures) (ap origin_of (sym c.origin.ensures))

-- by what the frame belongs to
late_by : (w : World) (n : ℕ) (f : Frame) (o : Origin) (b : Bool)
    → b ≡ is_late_of (running w) (origin_of o)
    → o ≡ f.origin
    → Some (frame_value f) ≡ frame_at (held_in w.frames) n
    → b ≡ is_late_held (running w) (frame_at (running w).frames n)
late_by w n f o b late same at =
    late ∙ ap (λ (x : Origin). is_late_of (running w) (origin_of x)) same ∙ ap (is_late_held (running w)) at

pub returns-in-Some-clause-late : goal.returns-in-Some-clause-late
returns-in-Some-clause-late c = grind (arith, late_by)

pub returns-in-None-clause-late : goal.returns-in-None-clause-late
returns-in-None-clause-late c = ap (is_late_held (running c.args.self.now)) c.in-None.ensures

pub returns-in-Some-clause-late_after : goal.returns-in-Some-clause-late_after
returns-in-Some-clause-late_after c = λ N past at.
    late_by c.args.self.now c.args.number c.in-Some.frame c.origin.result c.is_left_behind.result c.is_left_behind.ensures c.origin.ensures c.in-Some.ensures
    ∙ late-after N past (running c.args.self.now) c.args.number at

pub returns-in-None-clause-late_after : goal.returns-in-None-clause-late_after
returns-in-None-clause-late_after c = λ N past at.
    ap (is_late_held (running c.args.self.now)) c.in-None.ensures ∙ late-after N past (running c.args.self.now) c.args.number at

pub returns-in-Some-clause-there : goal.returns-in-Some-clause-there
returns-in-Some-clause-there c = λ late.
    late-there (running c.args.self.now) c.args.number
    (sym (late_by c.args.self.now c.args.number c.in-Some.frame c.origin.result c.is_left_behind.result c.is_left_behind.ensures c.origin.ensures c.in-Some.ensures) ∙ late)
