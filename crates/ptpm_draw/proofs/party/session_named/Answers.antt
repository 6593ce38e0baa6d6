use Rattle.ptpm_world.proofs.Common.{◌∙◌, ap, bytes_eq, network_value, option_map, position, sym}
use Rattle.ptpm_draw.specs.declared.party.Party.TheVariants as parties
use Rattle.ptpm_draw.proofs.Names.{named-session}
use Rattle.ptpm_draw.proofs.party.session_named.Goals as goal

pub returns-in_err-session_place : goal.returns-in_err-session_place
returns-in_err-session_place c =
    c.from_residual.ensures ∙ ap (option_map parties.Session) (sym c.in_err-session_place.was ∙ c.session_place.ensures)
    ∙ ap (λ ss. option_map parties.Session (position (λ s. bytes_eq s.name c.args.name.now) ss)) c.sessions.ensures
    ∙ named-session (network_value c.args.network.now) c.args.name.now

pub returns : goal.returns
returns c =
    ap (option_map parties.Session) (sym c.in_ok-session_place.was ∙ c.session_place.ensures)
    ∙ ap (λ ss. option_map parties.Session (position (λ s. bytes_eq s.name c.args.name.now) ss)) c.sessions.ensures
    ∙ named-session (network_value c.args.network.now) c.args.name.now
