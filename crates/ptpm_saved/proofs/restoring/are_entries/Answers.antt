use Rattle.std.proofs.Common.{ap, subst, sym}
use Rattle.ptpm_saved.specs.AnswerRoom.{RoomValue}
use Rattle.ptpm_saved.specs.Image.{AreEntries}
use Rattle.ptpm_saved.proofs.restoring.are_entries.Goals as goal

pub returns-clause-sound : goal.returns-clause-sound
returns-clause-sound c = λ yes.
    let e = c.judge_entries.ensures.sound yes in
    let room = ap (λ (r : RoomValue). r.most) c.in_ok-fit.ensures in
    (e.0, subst (λ n. AreEntries n e.0) room e.1, e.2, e.3)

pub returns-clause-found : goal.returns-clause-found
returns-clause-found c = λ es entries size is.
    let room = ap (λ (r : RoomValue). r.most) c.in_ok-fit.ensures in
    c.judge_entries.ensures.found es (subst (λ n. AreEntries n es) (sym room) entries) size is
