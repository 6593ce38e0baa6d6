use Rattle.std.proofs.Common.{◌≡◌, take, fold}
use Rattle.serde_json.specs.Data.{no_members}
use Rattle.serde_json.specs.View.{members_view}
use Rattle.ptpm_message_json.specs.DataField.{put_field}
use Rattle.ptpm_message_json.proofs.data_field.members_object.Given as goal

-- the members so far are put
abbrev pub invariant-loop-member : goal.invariant-loop-member
invariant-loop-member l = members_view l.map.entries ≡ fold (put_field l.octets) no_members (take l.member-index l.members)
