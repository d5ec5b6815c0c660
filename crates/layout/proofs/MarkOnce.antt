-- Which version a volume has, by its first sector and by its mark.
use Rattle.std.proofs.Common.{ℕ, ◌≡◌, ◌<◌, ◌^◌, List, Option, Some, None, get_or, drop, eqb, refl, sym, ap, ap₂, ◌∙◌, subst, arith}
use Rattle.std.specs.Prelude.{IsTrue}
use Rattle.std.proofs.lemmas.Bool.{and_parts, eqb-true}
use Rattle.geometry.specs.Encoding as geometry
use Rattle.geometry.specs.declared.superblock.Superblock.{Superblock}
use Rattle.geometry.proofs.ReadBack.{one_encoding}
use Rattle.std.specs.Int.{w32, from_be_bytes}
use Rattle.std.proofs.lemmas.Nat.{from_be_bytes-to_be_bytes_4}
use Rattle.disk.specs.Moments.{Image}
use Rattle.disk.specs.Calls as calls
use Rattle.disk.specs.Calls.{zero_sector}
use Rattle.layout.specs.Versions as marks
use Rattle.model_tree.specs.Seats.Seats.{Seats}
use Rattle.layout.specs.Stands.{IsMark, IsNumber, Kept, MayHaveSeats, TreeStands, StandsAs, mark_held, mark_sector, number_of_version, rest_by, size_by, version_by}
use Rattle.layout.specs.Superblock as first
use Rattle.layout.specs.Superblock.{superblock}
use Rattle.layout.specs.declared.versions.VersionNumber.{VersionNumber}
use Rattle.layout.specs.declared.versions.VersionNumber.TheVariants.{One, Two, Three}
use Rattle.layout.proofs.KeptLaws.{VersionParts, version_parts}
use Rattle.layout.proofs.LargeParts.{large_first}
use Rattle.layout.proofs.SeatLaws.{mark_is_spare, mark_spare}

-- the four bytes from place 4 of a mark, and from place 8 of a first sector

moved_back : (moved : ℕ) → moved < 2 ^ 32 → from_be_bytes w32 (drop 4 (mark_sector moved)) ≡ moved
unfolding marks.mark_sector
moved_back moved fits = from_be_bytes-to_be_bytes_4 moved fits

begins : (moved : ℕ) → get_or (mark_sector moved) 0 0 ≡ 77
unfolding marks.mark_sector
begins moved = refl

zero_begins : get_or zero_sector 0 0 ≡ 0
unfolding calls.zero_sector
zero_begins = refl

number_back : (number sectors nodes run : ℕ) (rest : List ℕ) → number < 2 ^ 32 → from_be_bytes w32 (drop 8 (superblock number sectors nodes run rest)) ≡ number
unfolding first.superblock
number_back number sectors nodes run rest fits = from_be_bytes-to_be_bytes_4 number fits

not_mark : (moved : ℕ) → zero_sector ≡ mark_sector moved → ⊥
not_mark moved same =
    let apart : get_or zero_sector 0 0 ≡ get_or (mark_sector moved) 0 0 = ap (λ (s : List ℕ). get_or s 0 0) same in
    omega (arith, apart, zero_begins, begins moved)

same_moved : (a b : ℕ) → a < 2 ^ 32 → b < 2 ^ 32 → mark_sector a ≡ mark_sector b → a ≡ b
same_moved a b a_fits b_fits same = sym (moved_back a a_fits) ∙ (ap (λ (s : List ℕ). from_be_bytes w32 (drop 4 s)) same ∙ moved_back b b_fits)

-- a volume's mark fits four bytes
mark_fits : (number : VersionNumber) (nodes moved : ℕ) → nodes < 2 ^ 32 → IsMark number nodes (Some moved) → moved < 2 ^ 32
mark_fits One nodes moved fits is = omega (arith, fits, is.1)
mark_fits Two nodes moved fits is = omega (arith, fits, is)
mark_fits (Three s) nodes moved fits is = absurd is

-- the sector of the mark determines it
pub one_mark : (number : VersionNumber) (nodes : ℕ) (a b : Option ℕ) → nodes < 2 ^ 32 → IsMark number nodes a → IsMark number nodes b
    → mark_held a ≡ mark_held b → a ≡ b
one_mark number nodes None None fits one other same = refl
one_mark number nodes None (Some b) fits one other same = absurd (not_mark b same)
one_mark number nodes (Some a) None fits one other same = absurd (not_mark a (sym same))
one_mark number nodes (Some a) (Some b) fits one other same =
    ap (λ (moved : ℕ). Some moved) (same_moved a b (mark_fits number nodes a fits one) (mark_fits number nodes b fits other) same)

numbers_fit : (number : VersionNumber) → number_of_version number < 2 ^ 32
numbers_fit One = omega arith
numbers_fit Two = omega arith
numbers_fit (Three s) = omega arith

-- The first sector determines the version, with the superblock of version 3

number_in : (a b : VersionNumber) (sectors nodes run other_sectors other_nodes other_run : ℕ)
    → superblock (number_of_version a) sectors nodes run (rest_by a) ≡ superblock (number_of_version b) other_sectors other_nodes other_run (rest_by b)
    → number_of_version a ≡ number_of_version b
number_in a b sectors nodes run other_sectors other_nodes other_run same =
    sym (number_back (number_of_version a) sectors nodes run (rest_by a) (numbers_fit a))
    ∙ (ap (λ (s : List ℕ). from_be_bytes w32 (drop 8 s)) same ∙ number_back (number_of_version b) other_sectors other_nodes other_run (rest_by b) (numbers_fit b))

-- in version 3 it is that of the superblock
encoded : (s : Superblock) (sectors nodes run : ℕ) → IsTrue (size_by (Three s) sectors nodes) → superblock 3 sectors nodes run (rest_by (Three s)) ≡ geometry.superblock s run
encoded s sectors nodes run sized =
    let both = and_parts (eqb s.geometry.sectors sectors) (eqb s.geometry.nodes nodes) sized in
    ap₂ (λ (a b : ℕ). superblock 3 a b run (rest_by (Three s))) (sym (eqb-true s.geometry.sectors sectors both.0)) (sym (eqb-true s.geometry.nodes nodes both.1)) ∙ large_first s run

by_numbers : (a b : VersionNumber) (sectors nodes run other_sectors other_nodes other_run : ℕ) → IsNumber a → IsNumber b
    → IsTrue (size_by a sectors nodes) → IsTrue (size_by b other_sectors other_nodes)
    → superblock (number_of_version a) sectors nodes run (rest_by a) ≡ superblock (number_of_version b) other_sectors other_nodes other_run (rest_by b)
    → number_of_version a ≡ number_of_version b → a ≡ b
by_numbers One One sectors nodes run others more other_run is other sized size same number = refl
by_numbers Two Two sectors nodes run others more other_run is other sized size same number = refl
by_numbers (Three s) (Three t) sectors nodes run others more other_run is other sized size same number =
    ap (λ (u : Superblock). Three u) (one_encoding s t run other_run is other (sym (encoded s sectors nodes run sized) ∙ (same ∙ encoded t others more other_run size)))
by_numbers One Two sectors nodes run others more other_run is other sized size same number = absurd (cc)
by_numbers One (Three t) sectors nodes run others more other_run is other sized size same number = absurd (cc)
by_numbers Two One sectors nodes run others more other_run is other sized size same number = absurd (cc)
by_numbers Two (Three t) sectors nodes run others more other_run is other sized size same number = absurd (cc)
by_numbers (Three s) One sectors nodes run others more other_run is other sized size same number = absurd (cc)
by_numbers (Three s) Two sectors nodes run others more other_run is other sized size same number = absurd (cc)

pub one_number : (a b : VersionNumber) (sectors nodes run other_sectors other_nodes other_run : ℕ) → IsNumber a → IsNumber b
    → IsTrue (size_by a sectors nodes) → IsTrue (size_by b other_sectors other_nodes)
    → superblock (number_of_version a) sectors nodes run (rest_by a) ≡ superblock (number_of_version b) other_sectors other_nodes other_run (rest_by b) → a ≡ b
one_number a b sectors nodes run other_sectors other_nodes other_run is other sized size same =
    by_numbers a b sectors nodes run other_sectors other_nodes other_run is other sized size same (number_in a b sectors nodes run other_sectors other_nodes other_run same)

-- so what an image represents, it represents in the version that both encode
pub record StandsTold (number : VersionNumber) (mark : Option ℕ) (size nodes : ℕ) (image : Image) (run : ℕ) (kept : Kept) : Type 0 where
  pub may : MayHaveSeats number mark kept.seats
  pub stands : TreeStands (version_by number mark kept.seats) size nodes image run kept.tree

module _ (number : VersionNumber) (size nodes : ℕ) (image : Image) (run : ℕ) (kept : Kept) (sectors other_nodes other_run : ℕ) (is : IsNumber number) (sized : IsTrue (size_by number sectors other_nodes))
    (first : image 0 ≡ superblock (number_of_version number) sectors other_nodes other_run (rest_by number)) (stands : StandsAs size nodes image run kept) where
  abbrev parts : VersionParts nodes stands.version kept.seats
  parts = version_parts nodes stands.version kept.seats stands.is_version

  there : TreeStands (version_by parts.number parts.mark kept.seats) size nodes image run kept.tree
  there = subst (λ version. TreeStands version size nodes image run kept.tree) parts.same stands.stands

  pub number_told : parts.number ≡ number
  number_told = one_number parts.number number size nodes run sectors other_nodes other_run parts.is_number is there.sized sized (sym there.first ∙ first)

  pub stands_told : (mark : Option ℕ) → nodes < 2 ^ 32 → IsMark number nodes mark → image 147 ≡ mark_held mark → StandsTold number mark size nodes image run kept
  stands_told mark fits marks marked =
      let mark_is : IsMark number nodes parts.mark = subst (λ (n : VersionNumber). IsMark n nodes parts.mark) number_told parts.is_mark in
      let same_mark : parts.mark ≡ mark = one_mark number nodes parts.mark mark fits mark_is marks
      (sym (mark_spare parts.number nodes parts.mark kept.seats parts.is_mark) ∙ (sym (there.laid.spare 147 (mark_is_spare parts.number kept.seats)) ∙ marked)) in
      record {
        may = subst (λ (m : Option ℕ). MayHaveSeats number m kept.seats) same_mark (subst (λ (n : VersionNumber). MayHaveSeats n parts.mark kept.seats) number_told parts.may);
        stands = subst (λ (m : Option ℕ). TreeStands (version_by number m kept.seats) size nodes image run kept.tree) same_mark
            (subst (λ (n : VersionNumber). TreeStands (version_by n parts.mark kept.seats) size nodes image run kept.tree) number_told there);
      }
