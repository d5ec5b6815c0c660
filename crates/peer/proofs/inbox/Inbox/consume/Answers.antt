use Rattle.std.proofs.Common.{◌≡◌, ℕ, ◌+◌, ◌-◌, min, List, length, take, drop, slice_range, sym, ap, ◌∙◌, arith, length-take, drop-drop}
use Rattle.std.proofs.lemmas.List.{drop-take, drop_min}
use Rattle.peer.proofs.inbox.Inbox.consume.Goals as goal

drop-min-take : (k n : ℕ) (xs : List ℕ) → drop (min k n) (take k xs) ≡ drop n (take k xs)
drop-min-take k n xs =
    let prefix = take k xs in
    let same : min (min k n) (length prefix) ≡ min n (length prefix) = omega (arith, length-take k xs) in
    sym (drop_min (min k n) prefix) ∙ ap (λ m. drop m prefix) same ∙ drop_min n prefix

slice_range_advance : (xs : List ℕ) (a e n : ℕ) → slice_range xs (a + min (e - a) n) e ≡ drop n (slice_range xs a e)
slice_range_advance xs a e n =
    let m = min (e - a) n in
    let whole : m + (e - (a + m)) ≡ e - a = omega arith in
    ap (take (e - (a + m))) (sym (drop-drop m a xs))
    ∙ sym (drop-take m (e - (a + m)) (drop a xs))
    ∙ ap (λ k. drop m (take k (drop a xs))) whole
    ∙ drop-min-take (e - a) n (drop a xs)

pub returns : goal.returns
returns c =
    let inside = c.self.inside in
    rw (c.min.ensures, sym c.self.view_is) (slice_range_advance inside.bytes.items inside.start inside.end c.args.count)
