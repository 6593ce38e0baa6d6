use Rattle.ptpm_c.proofs.device.undertake.Goals as goal

pub returns-in-Ok-clause-undertaken : goal.returns-in-Ok-clause-undertaken
returns-in-Ok-clause-undertaken c = λ none. (
  c.say_asking.ensures _ _ c.in-Ok.ensures.asked,
  record {
    called = c.in-Ok.ensures.called;
    under_way_is = c.in-Ok.ensures.under_way;
    waits_is = c.in-Ok.ensures.waits;
    others = c.in-Ok.ensures.others;
    agent_is = c.undertake.ensures.agent;
    free_is = c.undertake.ensures.free;
    begun_is = c.undertake.ensures.begun;
  },
)
