-- Entries, written and read.
use Rattle.std.proofs.Common.{◌≡◌, ◌+◌, ℕ, List, [], ◌∷◌, ◌++◌, Option, Some, Result, Err, get_or, take, drop, replicate, refl, sym, ap, ◌∙◌, arith, append_assoc}
use Rattle.std.specs.Int.{w32, to_be_bytes}
use Rattle.std.proofs.lemmas.List.{get_or-drop, drop-drop}
use Rattle.model_tree.specs.declared.acl.Ace.{Ace}
use Rattle.model_tree.specs.declared.acl.AceKind.{AceKind}
use Rattle.model_tree.specs.declared.acl.Who.{Who}
use Rattle.inode.specs.declared.fault.InodeFault.{InodeFault}
use Rattle.sector.specs.Placed.{IsNumberAt}
use Rattle.sector.specs.Records.{AreWide}
use Rattle.inode.specs.Fields.{IsAce, id_of}
use Rattle.inode.specs.Encoding.{ace_bytes, ace_kind_byte, who_byte, number_bytes}

pub aces_wide : AreWide ace_bytes 16
aces_wide ace = refl

pub numbers_wide : AreWide number_bytes 4
numbers_wide number = refl

-- four parts of four bytes, one after the other
pub chain : (s0 s1 s2 s3 s4 a b c d : List ℕ) (at : ℕ) → take (at + 4) s1 ≡ take at s0 ++ a → take (at + 4 + 4) s2 ≡ take (at + 4) s1 ++ b → take (at + 8 + 4) s3 ≡ take (at + 8) s2 ++ c
    → take (at + 12 + 4) s4 ≡ take (at + 12) s3 ++ d → take (at + 16) s4 ≡ take at s0 ++ (a ++ b ++ c ++ d)
chain s0 s1 s2 s3 s4 a b c d at f1 f2 f3 f4 =
    let e2 : at + 8 ≡ at + 4 + 4 = omega arith in
    let e3 : at + 12 ≡ at + 8 + 4 = omega arith in
    let e4 : at + 16 ≡ at + 12 + 4 = omega arith in
    let p2 : take (at + 8) s2 ≡ take at s0 ++ a ++ b = ap (λ (i : ℕ). take i s2) e2 ∙ f2 ∙ ap (λ (x : List ℕ). x ++ b) f1 in
    let p3 : take (at + 12) s3 ≡ take at s0 ++ a ++ b ++ c = ap (λ (i : ℕ). take i s3) e3 ∙ f3 ∙ ap (λ (x : List ℕ). x ++ c) p2 in
    let p4 : take (at + 16) s4 ≡ take at s0 ++ a ++ b ++ c ++ d = ap (λ (i : ℕ). take i s4) e4 ∙ f4 ∙ ap (λ (x : List ℕ). x ++ d) p3 in
    p4 ∙ simp append_assoc

-- what is in the fields of an entry at a place
module _ (sector : List ℕ) (at : ℕ) (ace : Ace) (rest : List ℕ) (there : drop at sector ≡ ace_bytes ace ++ rest) where
  byte_there : (k : ℕ) → get_or sector (at + k) 0 ≡ get_or (ace_bytes ace ++ rest) k 0
  byte_there k = sym (get_or-drop at sector k 0) ∙ ap (λ (xs : List ℕ). get_or xs k 0) there

  pub kind_there : get_or sector at 0 ≡ ace_kind_byte ace.kind
  kind_there = let e : at + 0 ≡ at = omega arith in ap (λ (i : ℕ). get_or sector i 0) (sym e) ∙ byte_there 0

  pub who_there : get_or sector (at + 1) 0 ≡ who_byte ace.who
  who_there = byte_there 1

  pub flags_there : get_or sector (at + 2) 0 ≡ ace.flags.0
  flags_there = byte_there 2

  pub mask_there : (mask : ℕ) → IsAce ace → IsNumberAt 4 sector (at + 4) mask → mask ≡ ace.mask.0
  mask_there mask fits reads = reads ace.mask.0 (to_be_bytes w32 (id_of ace.who) ++ replicate 4 0 ++ rest) fits.mask (sym (drop-drop 4 at sector) ∙ ap (drop 4) there)

  pub id_there : (id : ℕ) → IsAce ace → IsNumberAt 4 sector (at + 8) id → id ≡ id_of ace.who
  id_there id fits reads = reads (id_of ace.who) (replicate 4 0 ++ rest) fits.id (sym (drop-drop 8 at sector) ∙ ap (drop 8) there)

-- an entry is its fields
pub same_ace : (kind : AceKind) (flags mask : ℕ) (who : Who) (ace : Ace) → kind ≡ ace.kind → flags ≡ ace.flags.0 → mask ≡ ace.mask.0 → who ≡ ace.who
    → (let made : Ace = record { kind = kind; flags = record { 0 = flags }; mask = record { 0 = mask }; who = who } in made ≡ ace)
same_ace kind flags mask who ace a b c d = rw (a, b, c, d) refl

-- the bytes of an entry, by its parts
pub ace_parts : (kind who flags mask id : ℕ) (ace : Ace) → kind ≡ ace_kind_byte ace.kind → who ≡ who_byte ace.who → flags ≡ ace.flags.0 → mask ≡ ace.mask.0 → id ≡ id_of ace.who
    → (kind ∷ who ∷ flags ∷ 0 ∷ []) ++ to_be_bytes w32 mask ++ to_be_bytes w32 id ++ replicate 4 0 ≡ ace_bytes ace
ace_parts kind who flags mask id ace a b c d e = rw (a, b, c, d, e) refl

-- what is some value is that value
pub some_is : {A : Type 0} (x y : A) → (let s : Option A = Some x in s ≡ Some y) → x ≡ y
some_is x y e = cc

-- the fault of a result that has none but this one
pub err_is : {A : Type 0} (x y : InodeFault) → (let r : Result A InodeFault = Err x in r ≡ Err y) → x ≡ y
err_is x y e = cc
