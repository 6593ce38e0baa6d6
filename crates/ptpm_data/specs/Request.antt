-- A request, as a clock judges it.
use Rattle.std.specs.Prelude.{ℕ, List}
use Rattle.ptpm_codec.specs.declared.message.Action.{Action}
use Rattle.ptpm_data.specs.declared.request.Request.TheInside.{Inside}

pub record RequestValue : Type 0 where
  pub action : Action
  pub id : ℕ
  pub port : ℕ
  pub octets : List ℕ

abbrev pub request_value : Inside → RequestValue
request_value r = record { action = r.action; id = r.id; port = r.port; octets = r.octets.now }
