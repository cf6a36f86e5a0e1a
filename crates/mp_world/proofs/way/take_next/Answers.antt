use Rattle.world_steps.proofs.Waiting.{front_taken}
use Rattle.mp_world.proofs.way.take_next.Goals as goal

pub returns : goal.returns
returns c = front_taken c.args.waiting.now.items c.pop_front.new.self.items c.pop_front.result c.pop_front.ensures.items c.pop_front.ensures.rest
