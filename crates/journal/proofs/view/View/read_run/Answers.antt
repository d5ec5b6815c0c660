use Rattle.std.proofs.Common.{◌≡◌, ◌<◌, ◌+◌, ◌∙◌, ℕ, List, [], length, get_or, set, false, sym, ap, arith}
use Rattle.std.proofs.lemmas.Grind.{common_steps}
use Rattle.std.proofs.lemmas.List.{get_or-set_other}
use Rattle.disk.specs.Moments.{seen}
use Rattle.journal.specs.Log.{Log}
use Rattle.journal.specs.Views.{view_of}
use Rattle.journal.proofs.view.View.read_run.Goals as goal

filled : (run : List (List ℕ)) (at : ℕ) (content : List ℕ) (want : ℕ → List ℕ) → at < length run
    → ((i : ℕ) → i < at → get_or run i [] ≡ want i) → content ≡ want at
    → (i : ℕ) → i < at + 1 → get_or (set run at content) i [] ≡ want i
filled run at content want there before is i below = grind (arith, common_steps)

stayed : (old new : Log) → new ≡ record old { is_down = new.is_down } → old.is_down ≡ false → new.is_down ≡ false → new ≡ old
stayed old new is up up' = is ∙ ap (λ down. record old { is_down = down }) (up' ∙ sym up)

pub loop-i-preserved : goal.loop-i-preserved
loop-i-preserved g c =
    let inv = c.loop-i.invariant in
    let did = c.in_ok-read_elsewhere.ensures in
    let up = ap (λ (l : Log). l.is_down) inv.view ∙ inv.up in
    let now_up = did.answers.stays_up up (λ e. cc) in
    let at = c.loop-i.i in
    let n = c.args.first + at in
    let read : g.D.Device.keeps_word → get_or c.loop-i.run at [] ≡ seen (view_of c.loop-i.self).history.now n =
    λ k. inv.rest k at (omega arith) (omega arith) ∙ ap (λ (l : Log). seen l.history.now n) (sym inv.view) in
    record {
      at_home = λ k. filled c.loop-i.run at c.read_elsewhere.new.content (λ i. (view_of c.args.self.now).base (c.args.first + i)) (omega arith)
          (inv.at_home k) (did.ok k (read k) ∙ ap (λ (l : Log). l.base n) inv.view);
      rest = λ k i above below. get_or-set_other c.loop-i.run at i c.read_elsewhere.new.content [] (omega arith) ∙ inv.rest k i (omega arith) below;
      view = stayed _ _ did.view up now_up ∙ inv.view;
      up = inv.up;
      same = did.same_reference ∙ inv.same;
      none = did.answers.none (λ e. cc) ∙ inv.none;
    }
