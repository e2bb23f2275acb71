-- The bytes of the number that is made of four bytes are those four. Assumes nothing.
use Rattle.std.proofs.Common.{rules}
use Rattle.std.proofs.lemmas.Nat.{le_bytes_4}
use Rattle.streams.proofs.number_of.Goals as goal

pub returns : goal.returns
returns c = le_bytes_4 c.args.bytes _ (search rules) (search rules) c.from_le_bytes.ensures
