-- `card::write::put_card` meets its contract. Assumes nothing.
use Rattle.std.proofs.Common.{arith}
use Rattle.card.proofs.Laws.Written.{both}
use Rattle.card.proofs.Laws.Words.{at_80}
use Rattle.card.proofs.write.put_card.Goals as goal

pub returns : goal.returns
returns c =
    let put = c.put in
    let said = simp (c.record_bytes.ensures, c.encode_header.ensures, c.next_of-next.ensures.0) at put.ensures in
    (both (at_80 said (omega (arith, put.ensures.next, c.record_bytes.type_inv))) c.put_calls.ensures.0, c.put_calls.ensures.1)
