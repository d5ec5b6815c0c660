use Rattle.std.proofs.Common.{List, ℕ, ap, ◌∙◌}
use Rattle.freemap.specs.Places.{places_in}
use Rattle.freemap.specs.Kept.{free_places}
use Rattle.freemap.proofs.bitmap.Bitmap.free_count.Goals as goal

pub returns : goal.returns
returns c =
    let own = c.self.inside in
    c.count_free.ensures ∙ ap (λ (bytes : List ℕ). free_places (places_in bytes own.count)) c.deref.ensures.value
    ∙ ap free_places c.self.view_is
