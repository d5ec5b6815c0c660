use Rattle.std.proofs.Common.{sym, ap, ◌∙◌, length}
use Rattle.freemap.proofs.Bits.{length-places_in}
use Rattle.freemap.proofs.bitmap.Bitmap.len.Goals as goal

pub returns : goal.returns
returns c = sym (length-places_in c.self.inside.bits.items c.self.inside.count) ∙ ap length c.self.view_is
