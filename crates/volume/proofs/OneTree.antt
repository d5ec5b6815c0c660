-- An image represents one tree with its seats.
use Rattle.std.proofs.Common.{ℕ, ◌≡◌, ◌<◌, ◌^◌, sym, ap, ◌∙◌, subst, arith}
use Rattle.std.proofs.Math.Logic.{∥∥₁_elim}
use Rattle.std.proofs.Props.{props}
use Rattle.disk.specs.Moments.{Image}
use Rattle.journal.proofs.Recovers.{settles_once}
use Rattle.journal.proofs.First.{first_kept}
use Rattle.journal.specs.Settled.{AreSame, Settles}
use Rattle.journal.specs.declared.layout.LogArea.{LogArea}
use Rattle.layout.specs.Stands.{Kept, Version}
use Rattle.layout.specs.Versions.{log_by}
use Rattle.layout.proofs.OneKept.{in_its, its, one_kept}
use Rattle.model_tree.specs.Seats.Seats.{Seats}
use Rattle.model_tree.specs.Trees.Tree.{Tree}
use Rattle.volume.specs.Stands.{VolumeStands, IsBase, IsOne, OneStands}
use Rattle.volume.proofs.StandLaws.{is_area, some_sectors, stands_same, told_log}

pub Tree-set : IsSet Tree
Tree-set = Prim.hlevel props

pub Seats-set : IsSet Seats
Seats-set = Prim.hlevel props

pub Kept-set : IsSet Kept
Kept-set = Prim.hlevel props

IsOne-prop : (nodes run other_nodes other_run : ℕ) (kept other : Kept) → IsProp (IsOne nodes run other_nodes other_run kept other)
IsOne-prop nodes run other_nodes other_run kept other = Prim.hlevel (props, Kept-set)

one_base : (sectors nodes run other_nodes other_run : ℕ) (kept other : Kept) (image : Image) → IsBase sectors nodes run kept image
    → IsBase sectors other_nodes other_run other image → IsOne nodes run other_nodes other_run kept other
one_base sectors nodes run other_nodes other_run kept other image left right =
    let b = its sectors other_nodes right.base other_run other right.stands in
    let there = in_its sectors other_nodes right.base other_run other right.stands in
    let area = log_by b.number sectors in
    let left_first = first_kept (left.stands.version.log sectors) image left.base (some_sectors left.stands.version sectors nodes left.stands.stands.region) left.settles in
    let right_first = first_kept (right.stands.version.log sectors) image right.base (some_sectors right.stands.version sectors other_nodes right.stands.stands.region) right.settles in
    let log_is : left.stands.version.log sectors ≡ area = told_log b.number sectors nodes run kept left.base left.stands sectors other_nodes other_run b.is_number there.sized
    (left_first ∙ sym right_first ∙ there.first) in
    let own : right.stands.version.log sectors ≡ area = ap (λ (v : Version). v.log sectors) b.same in
    let small : area.end < 2 ^ 32 = omega (arith, there.region.within, there.region.numbers) in
    let same = settles_once area (is_area b.number sectors b.is_number) image left.base right.base small
    (subst (λ (l : LogArea). Settles l image left.base) log_is left.settles) (subst (λ (l : LogArea). Settles l image right.base) own right.settles) in
    let here : VolumeStands sectors nodes right.base run kept =
    stands_same sectors nodes left.base right.base run kept left.stands (subst (λ (l : LogArea). AreSame l.end left.base right.base) (sym log_is) same) in
    let one = one_kept sectors sectors nodes other_nodes run other_run right.base kept other here right.stands in
    record { kept_is = one.kept_is; nodes_are = one.same.nodes_are; run_is = one.same.run_is }

pub one_stands : OneStands
one_stands sectors nodes run other_nodes other_run kept other image left right =
    ∥∥₁_elim left (IsOne-prop nodes run other_nodes other_run kept other) (λ a.
    ∥∥₁_elim right (IsOne-prop nodes run other_nodes other_run kept other) (λ b. one_base sectors nodes run other_nodes other_run kept other image a b))
