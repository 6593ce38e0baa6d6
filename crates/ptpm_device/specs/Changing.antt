-- A change at the device itself: what its owner asks of it by a command line, or by another protocol (this project's profile).
use Rattle.ptpm_data.specs.Changes.{changed_by}
use Rattle.ptpm_data.specs.Request.{RequestValue}
use Rattle.ptpm_data.specs.Rights.{all_rights}
use Rattle.ptpm_agent.specs.Once.{History}
use Rattle.ptpm_agent.specs.Turn.{State}

-- It is carried out, or refused, as a request of a manager with every right. What is kept of each manager stays.
abbrev pub changed_state : RequestValue → State → State
changed_state q s = record { sets = changed_by q all_rights s.sets; entries = s.entries }

-- it leaves what was accepted, with the replies
abbrev pub changed_history : RequestValue → History → History
changed_history q h = record { sets = changed_by q all_rights h.sets; accepted = h.accepted }
