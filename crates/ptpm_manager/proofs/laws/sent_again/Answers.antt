-- Laws of a session's unanswered request.
use Rattle.std.proofs.Common.{◌≡◌, ℕ, Option, Some, None, option_map, sym, ap, ◌∙◌}
use Rattle.std.proofs.lemmas.Option.{same_Some}
use Rattle.ptpm_codec.specs.declared.message.Message.{Message}
use Rattle.ptpm_data.specs.Request.{RequestValue}
use Rattle.ptpm_manager.specs.declared.setup.Setup.{Setup}
use Rattle.ptpm_manager.specs.Setup.{request_message}
use Rattle.ptpm_codec.specs.Canonical.{canonical}
use Rattle.ptpm_manager.proofs.laws.sent_again.Goals as goal

-- in another domain a request is the same message except that
in_domain : (setup : Setup) (domain other k : ℕ) (o : Option RequestValue) (v w : Message)
    → option_map (request_message setup domain k) o ≡ Some v
    → option_map (request_message setup other k) o ≡ Some w
    → w ≡ record v { domain = other }
in_domain setup domain other k None v w p q = cc
in_domain setup domain other k (Some r) v w p q =
    sym (same_Some _ w q) ∙ ap (λ (u : Message). record u { domain = other }) (same_Some _ v p)

pub returns-clause-retuned : goal.returns-clause-retuned
returns-clause-retuned c s domain v w p q =
    ap (λ (u : Message). canonical u) (in_domain s.setup s.domain domain s.issued s.unanswered v w p q)
