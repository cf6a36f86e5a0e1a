use Rattle.std.proofs.Common.{arith}
use Rattle.packet_form.proofs.Bounds.{answer_held}
use Rattle.packet_form.proofs.Top.{answer_frames, answer_only, fault_found, fault_only}
use Rattle.packet_codec.proofs.decode.decode_packet.Goals as goal

pub returns-clause-found : goal.returns-clause-found
returns-clause-found c = answer_frames c.args.b.now c.decoded.result (λ i. omega (arith, c.type_inv.b i)) c.decoded.ensures

pub returns-clause-only : goal.returns-clause-only
returns-clause-only c = answer_only c.args.b.now c.decoded.result c.decoded.ensures

pub returns-clause-bad : goal.returns-clause-bad
returns-clause-bad c = fault_found c.args.b.now c.decoded.result (λ i. omega (arith, c.type_inv.b i)) c.decoded.ensures

pub returns-clause-faults : goal.returns-clause-faults
returns-clause-faults c = fault_only c.args.b.now c.decoded.result c.decoded.ensures

pub returns-clause-bounded : goal.returns-clause-bounded
returns-clause-bounded c = answer_held c.args.b.now c.decoded.result (answer_frames c.args.b.now c.decoded.result (λ i. omega (arith, c.type_inv.b i)) c.decoded.ensures)
