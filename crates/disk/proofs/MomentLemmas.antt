-- What the moments of one call, and of several, add.
use Rattle.std.proofs.Common.{inl, inr, ⊎_elim, arith}
use Rattle.disk.specs.Moments.{Image, History, LeftSince, AddsOnly}

pub AddsOnly-same : (P : Image → Type 0) (h : History) → AddsOnly P h h
AddsOnly-same P h = record { later = omega arith; added = λ t image l left. inl left }

pub AddsOnly-weaken : (P Q : Image → Type 0) (old new : History) → ((image : Image) → P image → Q image) → AddsOnly P old new → AddsOnly Q old new
AddsOnly-weaken P Q old new f a = record {
  later = a.later;
  added = λ t image l left. ⊎_elim
      (λ (w : LeftSince old t image). inl w) (λ (p : P image). inr (f image p)) (a.added t image l left);
}

pub AddsOnly-join : (P : Image → Type 0) (a b c : History) → AddsOnly P a b → AddsOnly P b c → AddsOnly P a c
AddsOnly-join P a b c first second = record {
  later = omega (arith, first.later, second.later);
  added = λ t image l left. ⊎_elim
      (λ (w : LeftSince b t image). first.added t image l w) (λ (p : P image). inr p)
      (second.added t image (omega (arith, first.later)) left);
}
