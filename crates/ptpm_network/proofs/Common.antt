-- The names that most of these proofs cite, passed on from one place. It declares nothing.
pub use Rattle.std.proofs.Common.{le_trans, [], ap, append_assoc, arith, Bool, drop, Err, false, flat_map, if◌then◌else◌, inl, inr, is_none, is_some, length, length-append, List, map, max, nat_le, nat_lt, None, not, Ok, Option, option_map, refl, replicate, Result, slice_get, slice_set, Some, subst, suc, sym, take, true, zero, ℕ, ⊎_elim, ◌&&◌, ◌*◌, ◌++◌, ◌+◌, ◌-◌, ◌/◌, ◌<◌, ◌==◌, ◌^◌, ◌||◌, ◌∙◌, ◌∷◌, ◌≡◌, ◌≤◌, ◌⊎◌}
pub use Rattle.std.specs.List.{AllByRecursion, cons_option, Contains, filter, find, list_any, range_with_len}
pub use Rattle.std.specs.Option.{option_or}
pub use Rattle.std.specs.Prelude.{unwrap_or}
pub use Rattle.std.specs.Result.{result_err}
pub use Rattle.std.proofs.lemmas.Bool.{and_cases, and_from, and_left, and_parts, and_right, cases_Bool, cases_eq, cond-false, cond-true, eq-eqb, eqb-false, eqb-true, false_from_ne_true, false≢true, le-leb, le-ltb, leb-true, lt-ltb, ltb-false, ltb-true, ne_eqb, not-false, not-true, or_cases, or_from, or_left, or_parts, or_right, true≢false}
pub use Rattle.std.proofs.lemmas.List.{append-nil, drop-take, get_or-set_other, get_or-set_same, length-drop, length-map, length-set, length-take-le, map-append, take-take, take_all}
pub use Rattle.std.proofs.lemmas.List.FromFn.{length-range_with_len}
pub use Rattle.std.proofs.lemmas.Option.{same_Some, slice_get-map, slice_get_within}
pub use Rattle.std.proofs.lemmas.Slice.Eq.{bytes_eq-Decides}
pub use Rattle.ptpm_codec.specs.declared.error.DecodeError.{DecodeError}
pub use Rattle.ptpm_codec.specs.declared.error.ErrorId.{ErrorId}
pub use Rattle.ptpm_codec.specs.declared.identity.ClockIdentity.{ClockIdentity}
pub use Rattle.ptpm_codec.specs.declared.identity.PortIdentity.{PortIdentity}
pub use Rattle.ptpm_codec.specs.declared.message.Action.{Action}
pub use Rattle.ptpm_codec.specs.declared.message.Body.{Body}
pub use Rattle.ptpm_codec.specs.declared.message.Message.{Message}
pub use Rattle.ptpm_codec.specs.Canonical.{canonical}
unfoldable pub use Rattle.ptpm_codec.specs.Canonical.{port_identity_octets, tlv_octets}
pub use Rattle.ptpm_codec.specs.Identity.{every_clock, every_port, same_clock, same_identity}
pub use Rattle.ptpm_codec.specs.Layout.{boundary_hops, domain_number, message_length, message_octets, octet, source_port_identity}
unfoldable pub use Rattle.ptpm_codec.specs.Layout.{number_at, port_identity_at}
pub use Rattle.ptpm_codec.specs.Message.{action_code, action_of, BodyFits, error_number, Fits, id_of, is_reply, IsDataField, IsReplyAction, IsValid, IsValidBody, PortIdentityFits, reply_action}
pub use Rattle.ptpm_codec.specs.Ordered.{first_of}
pub use Rattle.ptpm_codec.specs.Reading.{reading}
unfoldable pub use Rattle.ptpm_codec.specs.Reading.{body_at, message_of}
unfoldable pub use Rattle.ptpm_codec.specs.Refusal.{frame_refusal, text_refusal, tlv_refusal}
pub use Rattle.ptpm_codec.specs.SequenceNumber.{number_of}
pub use Rattle.ptpm_codec.specs.Spelling.{Spells, SpellsBody}
pub use Rattle.ptpm_codec.proofs.CanonicalLaws.{canonical_octets, canonical_spells}
pub use Rattle.ptpm_codec.proofs.MessageLaws.{same_clock-refl, same_clock-true, reply_action-is_reply, same_identity-true}
pub use Rattle.ptpm_codec.proofs.RefusalLaws.{first_of-none, option_or-none}
pub use Rattle.ptpm_codec.proofs.OctetLaws.{number-take, number_at-octets, octet-take}
pub use Rattle.ptpm_codec.proofs.ReadingLaws.{IsOctets, message_of-some, message_of-spells, message_size, octets-take, spells-message_of}
pub use Rattle.ptpm_data.specs.declared.ports.TheConstants.{INLINE_PORTS, PORTS}
pub use Rattle.ptpm_data.specs.Changes.{is_named}
unfoldable pub use Rattle.ptpm_data.specs.Changes.{changed_by, set_members}
pub use Rattle.ptpm_data.specs.DataField.{data_field_at}
unfoldable pub use Rattle.ptpm_data.specs.DataField.{clock_field_of}
pub use Rattle.ptpm_data.specs.ManagementId.{is_of_port}
unfoldable pub use Rattle.ptpm_data.specs.ManagementId.{row_of, set_of}
pub use Rattle.ptpm_data.specs.Members.{DataSetsValue, has_port, is_forwarding_port, may_forward}
pub use Rattle.ptpm_data.specs.Refusals.{refusal_of}
unfoldable pub use Rattle.ptpm_data.specs.Refusals.{is_set_length, is_set_value, row_refusal}
pub use Rattle.ptpm_data.specs.Replies.{outcome, read_refusal}
unfoldable pub use Rattle.ptpm_data.specs.Replies.{answer, named_ports, read_reply_to, reply_of, reply_to}
pub use Rattle.ptpm_data.specs.Reply.{Answer, Outcome, Refused, ReplyValue}
pub use Rattle.ptpm_data.specs.Request.{RequestValue}
pub use Rattle.ptpm_data.proofs.Keeping.{changed_by-ports, changed_by-sized, refused_answer}
pub use Rattle.ptpm_table.specs.declared.heard.Heard.{Heard}
pub use Rattle.ptpm_table.specs.Entries.{Entry, is_known}
pub use Rattle.ptpm_table.specs.Numbering.{look_at, look_by, same_request}
pub use Rattle.ptpm_table.specs.Rendering.{answer_body, hops_passed, reply_message}
unfoldable pub use Rattle.ptpm_table.specs.Rendering.{rendered}
pub use Rattle.ptpm_table.specs.Serial.{InWindow, serial_of}
pub use Rattle.ptpm_table.proofs.Identities.{same_identity-refl}
pub use Rattle.ptpm_agent.specs.declared.verdict.Verdict.{Verdict}
pub use Rattle.ptpm_agent.specs.Addressing.{heard_of, is_addressed, is_for_this_clock, is_numbered, is_own, is_request, names_port, request_of}
pub use Rattle.ptpm_agent.specs.Forwarding.{egress_ports, forwarded_by, is_forwarded, with_less_hop}
unfoldable pub use Rattle.ptpm_agent.specs.Forwarding.{forwarded}
pub use Rattle.ptpm_agent.specs.Laws.{due_messages, initial_clock_state, StandsAt, turns}
pub use Rattle.ptpm_agent.specs.Once.{Accepted, accepted_from, after_copy, applied_once, copies, copy_by, copy_from, copy_of, Delivery, due_reply, greatest, History, initial_history, is_copy, joined, joins, kept_for, kept_reply, RequestCopy}
pub use Rattle.ptpm_agent.specs.Observing.{after_arrival}
pub use Rattle.ptpm_agent.specs.Turn.{Clock, is_accepted_repeat, is_repeat, look, outbox_of, reply_by, reply_messages, State, turn_by, Turned, verdict_at}
unfoldable pub use Rattle.ptpm_agent.specs.Turn.{judged, turn}
pub use Rattle.ptpm_agent.specs.Window.{AreNumbered, IsInTime, IsInWindow, IsNumbered, KeepsWindow}
pub use Rattle.ptpm_agent.proofs.AtMostOnce.{applied_once-ports, delivers_copy, DeliversCopy, no_copy, stands-initial_history, turns_as}
pub use Rattle.ptpm_agent.proofs.Deliveries.{sets_once, stands-arrival}
pub use Rattle.ptpm_agent.proofs.Turns.{copy_parts, forwarded-copy, is_copy-numbered, judged-each, judged-foreign, judged-request, message_of-reading, reading-message_of, turn-message, verdict_at-unnumbered, judged-away, judged-own, judged-reply}
pub use Rattle.ptpm_manager.specs.declared.ask.Ask.{Ask}
pub use Rattle.ptpm_manager.specs.declared.report.Report.{Report}
unfoldable pub use Rattle.ptpm_manager.specs.Ask.{ask_refusal, target_port}
pub use Rattle.ptpm_manager.specs.Receiving.{answer_by, answer_to, is_answered_by, is_content, is_from_asked_port, is_from_target, is_in_domain, received_of}
unfoldable pub use Rattle.ptpm_manager.specs.Receiving.{reason_of}
pub use Rattle.ptpm_manager.specs.Report.{outcome_in}
pub use Rattle.ptpm_manager.specs.Session.{answered, begun, count_limit, due_message, is_waiting, resumed, retuned, sent, SessionValue}
unfoldable pub use Rattle.ptpm_manager.specs.Session.{begin_refusal, send_refusal}
pub use Rattle.ptpm_manager.specs.Setup.{request_message}
pub use Rattle.ptpm_network.specs.DataSets.{Answers, AreDataSets, HasOneAnswer, IsForOne, IsPort, IsSendable, IsSendableOutcome}
pub use Rattle.ptpm_network.specs.Events.{Begin, Replay, no_end, begin_refused, BeginRefused, Deliver, Event, Forged, forged, frame_at, frames_limit, frames_of_event, FramesAtMaximum, is_forged, is_taken, IsInRange, no_frame, no_port, no_room, no_session, NoSuchFrame, NoSuchName, Refusal, Resume, resume_refused, Retune, Send, send_refused, SendRefused, Stranger}
unfoldable pub use Rattle.ptpm_network.specs.Events.{refusal}
pub use Rattle.ptpm_network.specs.Exchange.{HasReplied, HasReported, HasRoom, IsHeardBy, LastIsForOne}
pub use Rattle.ptpm_network.specs.Headline.{Headline, IsPromised}
pub use Rattle.ptpm_network.specs.Invariant.{IsAsked, IsForeign, IsForeignFrame, IsFrame, IsInStep, IsMessage, IsOfOrigin, IsReached, WasAccepted}
pub use Rattle.ptpm_network.specs.Machine.{to_end, answer_messages, answer_origin, answering_frames, AreInTime, arrives, begun_in, delivered, delivered_at, delivered_at_clock, delivery, forwarded_frames, index_of, is_answer, is_late_delivery, is_late_frame, is_read, made_frames, read_messages, reply_frames, reply_origin, report_from, reported, run, sends, sent_frames, step, step_by, strange_frame, taken, told_by, with_frames, with_place, with_session}
unfoldable pub use Rattle.ptpm_network.specs.Machine.{happens}
pub use Rattle.ptpm_network.specs.Network.{AtPort, AtSession, ClocksHaveAtMost, End, HasEnd, expected_ports, IsLink, IsNetwork, manager, Network, peers, ports, same_end, SessionStart}
pub use Rattle.ptpm_network.specs.Replying.{origin_by, posted_by}
pub use Rattle.ptpm_network.specs.RunningNetwork.{replays, after_turn, delivers, goes_on, Happened, hears, Held, held, initial_network, network_run, nothing_to_resume, posted, reaches, RunningNetwork, seen, sends_in, sent_posted, turn_frames, unless_refused, with_session_value}
unfoldable pub use Rattle.ptpm_network.specs.RunningNetwork.{network_event}
pub use Rattle.ptpm_network.specs.Stands.{AreFirsts, Stands, StandsAfter}
pub use Rattle.ptpm_network.specs.State.{accepted_at_target, copies_at, Frame, frames_to, greatest_accepted, history, initial_state, is_idle, is_late, is_late_at, issued, Neither, NetworkState, new_frames, Origin, outcomes_kept, ReplyTo, reports_by, reports_of, RequestOf, session_value, SessionState, unanswered}
pub use Rattle.ptpm_network.specs.Way.{AreLinked, ComeIn, ComesIn, ends_of, handed_in, Hop, IsAnswerable, IsWay, Leads, LinksHaveAtMost, made_along, made_each_way, passed_at_most, PassesOn, RunsToReport, visited}
pub use Rattle.ptpm_network.specs.Worth.{entries_of, IsWorth, WasCarriedOut}
pub use Rattle.ptpm_network.proofs.Lists.{all_append, all_flat, all_get, all_made, all_weaker, at_place, at_places, filter-few, filter-fewer, flat-few, frame_at-all, get_append, get_appended, get_last, with_place-other, with_place-same, by_test}
