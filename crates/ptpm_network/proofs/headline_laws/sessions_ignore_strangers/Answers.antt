-- A stranger's datagram is no reply of a session's target, so the session ignores it.
use Rattle.ptpm_network.proofs.Common.{◌≡◌, ◌<◌, ℕ, List, false, ap, ◌∙◌, message_of-reading, received_of, is_forged, hears, IsNetwork, Network, RunningNetwork, SessionValue}
use Rattle.ptpm_manager.specs.declared.setup.Setup.{Setup}
use Rattle.ptpm_manager.specs.Reply.{HoldsReply}
use Rattle.ptpm_manager.proofs.ReplyLaws.{other_ignored}
use Rattle.ptpm_network.proofs.Refusals.{strange-foreign}
use Rattle.ptpm_network.proofs.Promise.{first_of_sessions, firsts}
use Rattle.ptpm_network.proofs.headline_laws.sessions_ignore_strangers.Goals as goal

stranger-ignored : (N : Network) (r : RunningNetwork) (s : ℕ) (datagram : List ℕ)
    → IsNetwork N → s < N.sessions → (r.session s).setup ≡ (N.session s).setup
    → is_forged N datagram ≡ false
    → hears r s (received_of (r.session s) datagram) ≡ r
stranger-ignored N r s datagram n place setup honest =
    let own = n.are_sessions s place in
    let other : HoldsReply (r.session s) datagram → ⊥ = λ h.
    (strange-foreign N datagram h.message honest (message_of-reading datagram h.message h.read)).no_reply (N.session s).target s own.exists place
    (h.answers.clock ∙ ap (λ (i : Setup). i.target) setup ∙ own.target) (h.answers.target ∙ ap (λ (i : Setup). i.me) setup) in
    ap (hears r s) (other_ignored (r.session s) datagram other).1.0

pub returns : goal.returns
returns c = λ N events r s datagram at place honest.
    let n = at.promised.network in
    let there = at.stands (first_of_sessions N N.sessions) (firsts N n) in
    stranger-ignored N r s datagram n place (ap (λ (v : SessionValue). v.setup) (there.sessions s place)) honest
