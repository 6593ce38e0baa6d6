-- The names that most proofs of this crate cite, passed on from one place. Declares nothing.
pub use Rattle.std.proofs.Common.{◌≡◌, ◌≢◌, ℕ, false, None, Some, Ok, Err, Result, refl, sym, ap, ◌∙◌, IfErr, IfOk, IsOkAnd, OnErr, OnOk, Option, option_map, ◌==◌, ◌+◌, ◌++◌, ◌⊎◌, inl, inr, true, List, [], ◌∷◌, subst, append_assoc, IsErrAnd, length, length-set, map, ◌<◌, ◌≤◌, ◌&&◌, not, nat_lt, nat_le, suc, zero, arith, Bool, ◌||◌, if◌then◌else◌, ⊎_elim, All, drop, take, is_some, length-append, append-nil, is_none, cond, get_or, rules, ◌-◌, set, add-one}
pub use Rattle.std.proofs.KnownBytes.{Appends-nil, Appends-trans}
pub use Rattle.std.proofs.lemmas.Bool.{ne_eqb, true≢false, and_from, and_left, and_right, cond-true, cond-false, le-ltb, lt-ltb, and_parts, eqb-true, eq-eqb, or_cases, or_left, or_right, cases_Bool, eqb-false, false≢true, cases_lt}
pub use Rattle.std.proofs.lemmas.List.{length-map, length-take, drop-append-le, drop_at, length-drop, map-append, take-append-drop, take-append-le, take_all, take_more, flat_map_more, get_or_past, length_push}
pub use Rattle.std.proofs.lemmas.List.Sums.{count_by-le-length, length-filter, prefix_len-le-length}
pub use Rattle.std.proofs.lemmas.Option.{slice_get_within, same_Some, slice_get_past, slice_get_read, slice_get-map, get_or_from_slice_get}
pub use Rattle.std.specs.Io.KnownBytes.{Appends, Consumes, IsAtEnd, Keeps}
pub use Rattle.std.specs.List.{AllByRecursion, filter, list_any, range_with_len, enumerate_from, position_or_len, prefix_len}
pub use Rattle.std.specs.Option.{option_or, option_copied}
pub use Rattle.std.specs.Prelude.{IfSome, slice_get, slice_set, flat_map, slice_index_or, OnSome, find, IfNone, Contains, IsSome, bytes_eq, ◌↔◌, position, is_ok, vec_len, vec_capacity, string_bytes}
pub use Rattle.std.specs.Result.{result_err}
pub use Rattle.ptpm_codec.specs.Identity.{every_clock, identity_cmp, same_clock, same_identity}
pub use Rattle.ptpm_codec.specs.declared.identity.PortIdentity.{PortIdentity}
pub use Rattle.ptpm_data.specs.Members.{DataSetsValue, HasPort, has_port}
pub use Rattle.ptpm_data.specs.Start.{port_data_set}
pub use Rattle.ptpm_table.specs.Entries.{Entry, is_known}
pub use Rattle.ptpm_table.specs.Managers.{IsFresh, clock_with, has_twice, identities}
pub use Rattle.ptpm_agent.specs.Laws.{AreOfManagers, IsKept, StandsAt, initial_clock_state}
pub use Rattle.ptpm_agent.specs.Turn.{State}
unfoldable pub use Rattle.ptpm_agent.specs.Turn.{turn}
pub use Rattle.ptpm_manager.specs.Session.{SessionValue, begun, due_message, fresh, resumed, retuned}
unfoldable pub use Rattle.ptpm_manager.specs.Session.{begin_refusal, send_refusal}
pub use Rattle.ptpm_manager.specs.declared.report.Report.{Report}
pub use Rattle.ptpm_network.specs.Events.{Begin, BeginRefused, Deliver, FramesAtMaximum, IsInRange, NoSuchFrame, NoSuchName, Refusal, Resume, Retune, Send, SendRefused, Stranger, frame_at, frames_limit, is_forged, is_taken, no_port, no_room}
unfoldable pub use Rattle.ptpm_network.specs.Events.{refusal}
pub use Rattle.ptpm_network.specs.Machine.{AreInTime, is_late_delivery, is_late_frame, run, step, strange_frame, taken, with_place}
pub use Rattle.ptpm_network.specs.Network.{AtPort, AtSession, HasEnd, IsNetwork, Network, manager, peers, ports, same_end}
pub use Rattle.ptpm_network.specs.Replying.{origin_by, posted_by}
pub use Rattle.ptpm_network.specs.RunningNetwork.{Done, Happened, Held, RunningNetwork, acts, delivers, hears, held, network_after, posted, reaches, seen, sends_in, sent_posted, takes_turn, turn_frames, unless_refused, with_session_value}
unfoldable pub use Rattle.ptpm_network.specs.RunningNetwork.{network_event}
pub use Rattle.ptpm_network.specs.Stands.{Stands, StandsAfter}
pub use Rattle.ptpm_network.specs.State.{Frame, Neither, NetworkState, Origin, ReplyTo, RequestOf, history, initial_state, is_late, is_late_at}
pub use Rattle.ptpm_script.specs.EventLine.{reading, verb_of}
pub use Rattle.ptpm_script.specs.NetworkText.{IsOfText}
unfoldable pub use Rattle.ptpm_script.specs.NetworkText.{network_of}
pub use Rattle.ptpm_script.specs.NetworkValue.{AreDistinct, AreSized, CanStart, ClockValue, IsAccepted, IsEndOf, IsLinkOf, NetworkValue, clock_value, first_sets, link_value}
pub use Rattle.ptpm_script.specs.NetworkView.{network_value}
pub use Rattle.ptpm_script.specs.declared.network.NetworkLink.{NetworkLink}
pub use Rattle.ptpm_world.specs.Described.{clock_at, configured, described, described_end, no_clock, session_at, with_rights}
pub use Rattle.ptpm_world.specs.Ends.{AreLinks, IsOfSession, IsStoredFrame, IsThere, port_counts}
pub use Rattle.ptpm_world.specs.Frames.{HasRoom, ends_of, frame_in, frame_value, held_in, link_ends, origin_of}
pub use Rattle.ptpm_text.specs.Lines.{BothKnown, whole_lines}
pub use Rattle.ptpm_world.specs.Lines.{left_in}
pub use Rattle.ptpm_world.specs.Placed.{Names, names_in, names_of, place_in, placed, placed_all}
pub use Rattle.ptpm_world.specs.Running.{IsClockOf, IsOf, agent_clock, agent_state, is_late_held, is_late_of, reports_of, running, session_of, sets_of, state_of, table_entries}
pub use Rattle.ptpm_world.specs.Script.{HasPlayed, HasPrinted, HasStopped, Played, Prints, StandsFor, begins_comment, behind, closed, closing, ends, event_of, from_file, in_network, is_divider, is_skipped, last_lines, network_text, played, played_by, read_as, scripted, scripted_from, started, started_session, trace_of, unless_fault}
pub use Rattle.ptpm_world.specs.ScriptError.{HasNextFault, ReadsWhole, is_of_writing, is_outside, line_fault, next_fault, size_fault, text_fault}
pub use Rattle.ptpm_world.specs.Starting.{AreStartedClocks, AreStartedSessions, IsStartedClock, IsStartedSession}
pub use Rattle.ptpm_world.specs.Stepping.{IsStep, Leads}
pub use Rattle.ptpm_world.specs.Stored.{IsShort, IsWithin, at_end, is_same, others}
pub use Rattle.ptpm_world.specs.Took.{after, answer, answer_of, begin_error, error_of, heard, reports_in, took_of}
pub use Rattle.ptpm_world.specs.Trace.{clock_lines, data_lines, event_line, is_out_of_memory, line_feed, report_lines, session_lines}
unfoldable pub use Rattle.ptpm_world.specs.Trace.{error_text, event_text, port_line, report_line}
pub use Rattle.ptpm_world.specs.Writing.{TakesFirst, Writes}
pub use Rattle.ptpm_world.specs.declared.frames.Frames.{Frames}
pub use Rattle.ptpm_world.specs.declared.frames.Stored.{Stored}
pub use Rattle.ptpm_world.specs.declared.took.StepError.{StepError}
pub use Rattle.ptpm_world.specs.declared.took.Took.{Took}
pub use Rattle.ptpm_world.specs.declared.running_clock.RunningClock.{RunningClock}
pub use Rattle.ptpm_world.specs.declared.world.RunningSession.{RunningSession}
pub use Rattle.ptpm_world.specs.declared.world.World.{World}
