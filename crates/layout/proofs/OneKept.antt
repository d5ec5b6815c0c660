-- An image represents one tree with its seats.
use Rattle.std.proofs.Common.{ℕ, ◌≡◌, Option, sym, ap, ◌∙◌, subst}
use Rattle.disk.specs.Moments.{Image}
use Rattle.layout.specs.CachedNodeLaws.{OneKept}
use Rattle.layout.specs.Stands.{AreKept, Kept, StandsAs, TreeStands, Version, seats_at, sizes_by, version_by}
use Rattle.layout.specs.declared.versions.VersionNumber.{VersionNumber}
use Rattle.layout.proofs.FirstLaws.{one_tree}
use Rattle.layout.proofs.KeptLaws.{VersionParts, same_kept, seats_by, version_parts}
use Rattle.layout.proofs.MarkOnce.{one_number}

module _ (size nodes : ℕ) (image : Image) (run : ℕ) (kept : Kept) (stands : StandsAs size nodes image run kept) where
  abbrev pub its : VersionParts nodes stands.version kept.seats
  its = version_parts nodes stands.version kept.seats stands.is_version

  pub in_its : TreeStands (version_by its.number its.mark kept.seats) size nodes image run kept.tree
  in_its = subst (λ version. TreeStands version size nodes image run kept.tree) its.same stands.stands

  in_keeps : AreKept (sizes_by its.number) run kept.seats
  in_keeps = subst (λ (version : Version). AreKept version.sizes run kept.seats) its.same stands.keeps

  pub seats_told : seats_at its.number image ≡ kept.seats
  seats_told = seats_by its.number its.mark size nodes image run kept its.is_number its.may in_keeps in_its

-- two have one version
pub one_version : (size other_size nodes other_nodes run other_run : ℕ) (image : Image) (kept other : Kept)
    (one : StandsAs size nodes image run kept) (two : StandsAs other_size other_nodes image other_run other)
    → (its size nodes image run kept one).number ≡ (its other_size other_nodes image other_run other two).number
one_version size other_size nodes other_nodes run other_run image kept other one two =
    let a = its size nodes image run kept one in
    let b = its other_size other_nodes image other_run other two in
    let here = in_its size nodes image run kept one in
    let there = in_its other_size other_nodes image other_run other two in
    one_number a.number b.number size nodes run other_size other_nodes other_run a.is_number b.is_number here.sized there.sized (sym here.first ∙ there.first)

pub one_kept : OneKept
one_kept size other_size nodes other_nodes run other_run image kept other one two =
    let same = one_tree one.version two.version size other_size nodes other_nodes run other_run image kept.tree other.tree one.stands two.stands in
    let number = one_version size other_size nodes other_nodes run other_run image kept other one two in
    record {
      kept_is = same_kept kept other same.tree_is
          (sym (seats_told size nodes image run kept one)
          ∙ (ap (λ (n : VersionNumber). seats_at n image) number ∙ seats_told other_size other_nodes image other_run other two));
      same = same;
    }
