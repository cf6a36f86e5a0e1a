use Rattle.std.proofs.Common.{ap, ◌∙◌, drop}
use Rattle.program_edge.proofs.Pieces.{moves}
use Rattle.program_edge.proofs.memory.SureSourceSource.take.Goals as goal

pub returns-clause-bytes : goal.returns-clause-bytes
returns-clause-bytes c =
    let s = c.args.self.now in
    moves s.bytes.items _ c.split_at.result.1.now s.at c.fill-count.result (c.split_at.ensures.back ∙ ap (drop s.at) c.deref.ensures.value) c.fill-count.ensures.within c.fill-count.ensures.moved c.fill-count.ensures.end
