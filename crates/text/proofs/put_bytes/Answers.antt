-- The part copied to holds the bytes. Assumes nothing.
use Rattle.text.proofs.Putting.{puts_copied}
use Rattle.text.proofs.put_bytes.Goals as goal

pub returns : goal.returns
returns c = rw c.copy_from_slice.ensures.after (puts_copied c.args.at c.args.bytes.now c.args.out.now)
