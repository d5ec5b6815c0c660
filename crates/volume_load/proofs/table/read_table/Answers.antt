use Rattle.std.proofs.Common.{◌≡◌, ◌<◌, ◌+◌, ◌∷◌, [], ◌++◌, ◌∙◌, ℕ, Bool, List, Option, None, length, get_or, sym, ap, subst, arith}
use Rattle.std.specs.Prelude.{Err}
use Rattle.std.proofs.lemmas.List.{length_push}
use Rattle.inode.specs.declared.node.Form.{Form}
use Rattle.layout.specs.CachedNodes.{CachedNode}
use Rattle.layout.specs.Marks.{named, namings_of, mark_by}
use Rattle.layout.specs.Stands.{version_by}
use Rattle.model_tree.specs.Seats.Seats.{no_seats}
use Rattle.volume_load.specs.Ahead.{IsAhead}
use Rattle.volume_load.specs.CachedNodes.{FindsPlace}
use Rattle.volume_load.specs.Marking.{AreMarked, max_marks}
use Rattle.volume_load.specs.declared.fault.ScanFault.{ScanFault}
use Rattle.volume_load.proofs.MarkingLaws.{marked_more}
use Rattle.volume_load.proofs.SectorLaws.{same_fault}
use Rattle.volume_load.proofs.TableLaws.{named-push, next_fits, mark-none, each_more}
use Rattle.volume_load.proofs.table.read_table.Goals as goal

pub returns-in_err-cached-clause-damaged : goal.returns-in_err-cached-clause-damaged
returns-in_err-cached-clause-damaged g c = λ word is cached_nodes can.
    let inv = c.loop-place.invariant in
    let form : ℕ → Form = (version_by c.args.number c.args.mark no_seats).form in
    let image = g.S.Sectors.image (g.S.Sectors.kept c.args.sectors.now) in
    let place = c.loop-place.place in
    let first = 148 + c.args.nodes in
    let prefix : List (Option CachedNode) = c.loop-place.cached_nodes.items in
    let here : get_or cached_nodes (length prefix) None ≡ get_or cached_nodes place None = ap (λ (k : ℕ). get_or cached_nodes k None) inv.long in
    let count : max_marks first (length c.loop-place.places) ≡ max_marks first (length c.args.places.now) = ap (max_marks first) inv.marked.len in
    c.in_err-cached.ensures.damaged word (ap (λ (e : ScanFault). Err e) (same_fault c.from_residual-in_err-cached.result c.in_err-cached.field-0.0 c.from_residual-in_err-cached.ensures.1 is)) (get_or cached_nodes place None)
    (subst (λ (f : Form). FindsPlace g.S.Sectors.keeps_word f (g.S.Sectors.image (g.S.Sectors.kept c.loop-place.sectors)) place (get_or cached_nodes place None)) (sym c.form_at-form.ensures)
    (subst (λ kept. FindsPlace g.S.Sectors.keeps_word (form place) (g.S.Sectors.image kept) place (get_or cached_nodes place None)) (sym inv.kept) (can.each place c.loop-place-test.true)))
    (λ n.
    let fits = next_fits g.S.Sectors.keeps_word form image c.args.nodes n prefix cached_nodes word can.many (omega (arith, inv.long, c.loop-place-test.true)) (λ p below. inv.each p (omega (arith, inv.long))) can.each in
    let before : mark_by first c.args.places.now n ≡ 0 = ap (λ (l : List Bool). mark_by first l n) c.requires.free ∙ mark-none first (length c.args.places.now) n in
    let same = ap (namings_of n) here in
    let most = ap (λ (f : ℕ → ℕ). f n) count in
    omega (arith, inv.marked.marks n, can.once n))

pub loop-place-preserved : goal.loop-place-preserved
loop-place-preserved g c =
    let inv = c.loop-place.invariant in
    let form : ℕ → Form = (version_by c.args.number c.args.mark no_seats).form in
    let image = g.S.Sectors.image (g.S.Sectors.kept c.args.sectors.now) in
    let place = c.loop-place.place in
    let first = 148 + c.args.nodes in
    let prefix : List (Option CachedNode) = c.loop-place.cached_nodes.items in
    let cached_node = c.in_ok-cached.cached in
    let found = subst (λ (f : Form). FindsPlace g.S.Sectors.keeps_word f image place cached_node) c.form_at-form.ensures
    (subst (λ kept. FindsPlace g.S.Sectors.keeps_word c.form_at-form.result (g.S.Sectors.image kept) place cached_node) inv.kept c.in_ok-cached.ensures.found) in
    let pushed : c.push.new.self.items ≡ prefix ++ cached_node ∷ [] = c.in_ok-push.ensures.items in
    record {
      marked = subst (λ (l : List (Option CachedNode)). AreMarked first c.args.places.now c.read_place.new.places (λ n. named n l)) (sym pushed)
          (marked_more first c.args.places.now c.loop-place.places c.read_place.new.places (λ n. named n prefix) (λ n. namings_of n cached_node) (λ n. named n (prefix ++ cached_node ∷ [])) (λ n. sym (named-push n prefix cached_node)) inv.marked c.in_ok-cached.ensures.marked);
      long = ap (λ (l : List (Option CachedNode)). length l) pushed ∙ length_push prefix cached_node ∙ ap (λ (n : ℕ). n + 1) inv.long;
      each = subst (λ (l : List (Option CachedNode)). (p : ℕ) → p < place + 1 → FindsPlace g.S.Sectors.keeps_word (form p) image p (get_or l p None)) (sym pushed) (each_more g.S.Sectors.keeps_word form image prefix cached_node place inv.long inv.each found);
      ahead = subst (λ (nodes : ℕ). IsAhead g.S.Sectors.keeps_word image (g.S.Sectors.size (g.S.Sectors.kept c.args.sectors.now)) nodes c.read_place.new.ahead) inv.ahead.nodes_are
          (subst (λ kept. IsAhead g.S.Sectors.keeps_word (g.S.Sectors.image kept) (g.S.Sectors.size kept) c.loop-place.ahead.nodes c.read_place.new.ahead) inv.kept c.in_ok-cached.ensures.ahead);
      kept = c.read_place.ensures.kept ∙ inv.kept;
      health = c.in_ok-cached.ensures.health.stays (λ e. cc) ∙ inv.health;
    }

pub returns-clause-found : goal.returns-clause-found
returns-clause-found g c =
    let inv = c.loop-place.invariant in
    let form : ℕ → Form = (version_by c.args.number c.args.mark no_seats).form in
    let first = 148 + c.args.nodes in
    let end : c.loop-place.place ≡ c.args.nodes = omega arith in
    record {
      many = inv.long ∙ end;
      each = λ place h. inv.each place (omega arith);
      len = inv.marked.len;
      marks = λ n.
          let before : mark_by first c.args.places.now n ≡ 0 = ap (λ (l : List Bool). mark_by first l n) c.requires.free ∙ mark-none first (length c.args.places.now) n in
          omega (arith, inv.marked.marks n);
    }
