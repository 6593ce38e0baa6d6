use Rattle.ptpm_world.proofs.Common.{ℕ, ◌<◌, sym, subst, IsInRange, placed}
use Rattle.ptpm_codec.specs.Layout.{octet}
use Rattle.ptpm_script.specs.declared.event.Event.{Event}
use Rattle.ptpm_world.proofs.network_laws.placed_event.Goals as goal

pub returns-in-Begin : goal.returns-in-Begin
returns-in-Begin c = λ names. subst (λ (e : Event). IsInRange (placed names e)) (sym c.in-Begin.is) c.id_fits.ensures

pub returns-in-Stranger : goal.returns-in-Stranger
returns-in-Stranger c = λ names.
    subst (λ (e : Event). IsInRange (placed names e)) (sym c.in-Stranger.is)
    (subst (λ octets. (place : ℕ) → octet place octets < 256) c.as_slice.ensures c.octets_fit.ensures)
