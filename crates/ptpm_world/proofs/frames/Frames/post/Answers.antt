use Rattle.ptpm_world.proofs.Common.{arith, rules, ◌≡◌, ◌+◌, Bool, Some, true, cond, sym, ap, ◌∙◌, length, option_copied, is_ok, vec_len, append-nil, Stored, others}
use Rattle.ptpm_world.proofs.FrameLemmas.{Posting, few_others, found_peers, link_of, peers_found, posting-count, posting-frames, posting-short, posting-there, posting-within}
use Rattle.ptpm_world.proofs.frames.Frames.post.Goals as goal
use Rattle.ptpm_world.proofs.frames.Frames.post.Goals.{After-push_others}

-- the frame that is stored, once for each other end of the link
abbrev sent : After-push_others → Stored
sent c = record { end = c.args.from; origin = c.args.origin; start = c.len-start.result; size = length c.args.octets.now }

-- the octets were taken, since there was room for them
taken : (c : After-push_others) → is_ok c.extend_from_slice.result ≡ true
taken c = c.extend_from_slice.ensures.succeeds (omega (arith, c.requires.room.octets, c.requires.small))

found : (c : After-push_others) → link_of c.args.from c.args.links.now ≡ Some c.in-Some.link.now
found c = sym c.link_at.ensures ∙ ap option_copied c.in-Some.is

begins : (c : After-push_others) → c.len-start.result ≡ length c.args.self.now.octets.items
begins c = search rules

posting : (c : After-push_others)
    → Posting c.args.links.now c.in-Some.link.now (sent c) c.args.self.now.octets.items c.args.octets.now
    c.extend_from_slice.new.self.items c.args.self.now.stored.items c.push_others.new.stored.items
posting c = grind (arith, found, begins, taken)

pub returns-in_default-clause-frames : goal.returns-in_default-clause-frames
returns-in_default-clause-frames c = grind (arith, link_of, peers_found, found_peers, append-nil)

pub push_others-requires : goal.push_others-requires
push_others-requires c =
    let link = c.in-Some.link.now in
    let found : link_of c.args.from c.args.links.now ≡ Some link = sym c.link_at.ensures ∙ ap option_copied c.in-Some.is in
    let few = few_others c.requires.few.0 c.requires.few.1 c.args.from c.args.links.now link c.requires.few.2 found in
    let here : length (others c.args.from c.as_slice.result.now) ≡ length (others c.args.from link.ends.items) =
    ap (λ es. length (others c.args.from es)) c.as_slice.ensures.value in
    omega (arith, few, here, c.requires.room.frames)

pub invariant_of-self : goal.invariant_of-self
invariant_of-self c =
    let here = (goal.at.invariant_of-self c).After-push_others in
    let p = posting here in
    let few = few_others c.requires.few.0 c.requires.few.1 c.args.from c.args.links.now c.in-Some.link.now c.requires.few.2 (found here) in
    record { within = posting-within p; short = posting-short p c.args.self.now.short c.requires.small; few = omega (arith, few, posting-count p, c.requires.room.limit) }

pub returns-clause-frames : goal.returns-clause-frames
returns-clause-frames c = posting-frames (posting (goal.at.returns-clause-frames c).After-push_others)

pub returns-clause-room : goal.returns-clause-room
returns-clause-room c = λ n room.
    let here = (goal.at.returns-clause-room c).After-push_others in
    let p = posting here in
    let few = few_others c.requires.few.0 c.requires.few.1 c.args.from c.args.links.now c.in-Some.link.now c.requires.few.2 (found here) in
    let size = c.extend_from_slice.ensures.len
    ∙ ap (λ (b : Bool). cond b (vec_len c.args.self.now.octets + length c.args.octets.now) (vec_len c.args.self.now.octets)) (taken here) in
    record {
      limit = omega (arith, few, posting-count p, room.limit);
      frames = omega (arith, few, posting-count p, room.frames, c.push_others.ensures.capacity);
      octets = omega (arith, size, room.octets, c.extend_from_slice.ensures.capacity, c.requires.small);
    }

pub returns-clause-stored : goal.returns-clause-stored
returns-clause-stored c = λ counts sessions before all origin.
    posting-there (posting (goal.at.returns-clause-stored c).After-push_others) counts sessions before all origin
