-- What is copied into a part of the buffer stands there. Assumes nothing.
use Rattle.std.proofs.Common.{arith, refl, sym, ◌∙◌, ◌≡◌, ◌+◌, ◌-◌, length, take, drop, append_assoc}
use Rattle.std.proofs.lemmas.Slice.{put_mid-paste}
use Rattle.std.proofs.lemmas.List.Edits.{paste_all, sets-eq}
use Rattle.card.proofs.bytes.put.Goals as goal

pub returns : goal.returns
returns c =
    let out = c.args.out.now in
    let at = c.args.at in
    let bytes = c.args.bytes.now in
    let size : length bytes ≡ at + length bytes - at = omega arith in
    record {
      text = put_mid-paste at _ out _ bytes (length bytes) c.copy_from_slice.ensures.after size refl ∙ paste_all out at bytes _ refl ∙ sym (sets-eq bytes out at c.requires ∙ append_assoc (take at out) bytes (drop (at + length bytes) out));
      next = refl;
    }
