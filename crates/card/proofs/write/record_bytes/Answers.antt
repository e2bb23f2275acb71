-- `card::write::record_bytes` meets its contract: each number is written after those before it. Assumes nothing.
use Rattle.std.proofs.Common.{◌≡◌, ◌∙◌, arith, get_or, take_all}
use Rattle.card.specs.Bytes.{le32}
use Rattle.card.proofs.Laws.Written.{both}
use Rattle.card.proofs.Laws.Words.{le32_is, length_le32, words_more, whole_record}
use Rattle.card.proofs.write.record_bytes.Goals as goal

pub loop-number-preserved : goal.loop-number-preserved
loop-number-preserved c =
    let l = c.loop-number in
    let i = l.invariant in
    let put = c.put-at-in-loop-number in
    let numbers = c.args.encoded.numbers in
    let n = get_or numbers l.number-index 0 in
    let same : c.to_le_bytes-in-loop-number.result ≡ le32 n = c.to_le_bytes-in-loop-number.ensures ∙ le32_is n c.loop-number-test.element_fits.fits in
    let said = rw same at put.ensures in
    (rw (words_more numbers l.number-index (omega (arith, i.3))) (both i.0 said), put.auto.out ∙ i.1, omega (arith, said.next, length_le32 n, i.2), i.3)

pub returns : goal.returns
returns c =
    let i = c.loop-number.invariant in
    let numbers = c.args.encoded.numbers in
    whole_record c.args.next c.args.encoded (rw (take_all c.loop-number.number-index numbers (omega (arith, i.3))) at i.0) i.3
