-- The first sector of a volume is read back.
use Rattle.std.proofs.Common.{ℕ, Bool, true, false, List, Option, Some, None, ◌≡◌, ◌+◌, ◌<◌, ◌^◌, ◌&&◌, ◌||◌, ◌⊎◌, ◌∙◌, inl, inr, not, cond, codes, take, refl, ap, ap₂, subst, sym, arith, eqb, if◌then◌else◌}
use Rattle.std.specs.Prelude.{IsTrue, bytes_eq}
use Rattle.std.proofs.lemmas.Nat.{from_be_bytes-to_be_bytes_4}
use Rattle.volume.specs.declared.superblock.Verdict.TheVariants.{NotVolume, Worn, Damaged, Sound}
use Rattle.std.proofs.lemmas.Bool.{eq-eqb, eqb-true, and_parts, and_left, or_cases, lt-leb, eqb-false, cond-true, false_from_ne_true}
use mathlib.Core.Bool.{or-true}
use Rattle.std.specs.Cmp.Lexicographic.{bytes_decides}
use Rattle.geometry.specs.Encoding as geometry
use Rattle.geometry.specs.Encoding.{IsSuperblock}
use Rattle.geometry.specs.Places.{Fits}
use Rattle.geometry.specs.Reading as reading
use Rattle.geometry.specs.Reading.{found_in, geometry_in, superblock_in}
use Rattle.geometry.specs.declared.superblock.Superblock.{Superblock}
use Rattle.geometry.proofs.ReadBack.{found-back, superblock-back, volume_fits}
use Rattle.layout.specs.Large.{rest_of}
use Rattle.layout.specs.Versions.{IsNumber, number_of_version, size_by}
use Rattle.layout.specs.declared.versions.VersionNumber.{VersionNumber}
use Rattle.layout.specs.declared.versions.VersionNumber.TheVariants.{One, Two, Three}
use Rattle.layout.specs.Superblock as layout
use Rattle.layout.specs.Superblock.{is_size, magic}
use Rattle.layout.proofs.LargeParts.{large_first}
use Rattle.volume.specs.Superblock.{FindsVersion, HasSizes, is_early, is_volume, mount_verdict, version_in, last_run, superblock, word}
use Rattle.std.specs.List.{starts_with}

pub word_nodes : (version : VersionNumber) (sectors nodes run : ℕ) → nodes < 2 ^ 32 → word 16 (superblock version sectors nodes run) ≡ nodes
unfolding word layout.superblock
word_nodes version sectors nodes run fits = from_be_bytes-to_be_bytes_4 nodes fits

pub word_run : (version : VersionNumber) (sectors nodes run : ℕ) → run < 2 ^ 32 → word 20 (superblock version sectors nodes run) ≡ run
unfolding word layout.superblock
word_run version sectors nodes run fits = from_be_bytes-to_be_bytes_4 run fits

word_sectors : (version : VersionNumber) (sectors nodes run : ℕ) → sectors < 2 ^ 32 → word 12 (superblock version sectors nodes run) ≡ sectors
unfolding word layout.superblock
word_sectors version sectors nodes run fits = from_be_bytes-to_be_bytes_4 sectors fits

word_version : (version : VersionNumber) (sectors nodes run : ℕ) → word 8 (superblock version sectors nodes run) ≡ number_of_version version
unfolding word layout.superblock
word_version One sectors nodes run = refl
word_version Two sectors nodes run = refl
word_version (Three s) sectors nodes run = refl

-- what is of a size by its version has the numbers of its superblock
pub has_sizes : (version : VersionNumber) (sectors nodes : ℕ) → IsNumber version → IsTrue (size_by version sectors nodes) → HasSizes version sectors nodes
has_sizes One sectors nodes number sized = tt
has_sizes Two sectors nodes number sized = tt
has_sizes (Three s) sectors nodes number sized =
    let both = and_parts (eqb s.geometry.sectors sectors) (eqb s.geometry.nodes nodes) sized in
    (number, eqb-true s.geometry.sectors sectors both.0, eqb-true s.geometry.nodes nodes both.1)

-- in version 3 the first sector is the encoding of the superblock
pub encoded_large : (s : Superblock) (sectors nodes run : ℕ) → HasSizes (Three s) sectors nodes → superblock (Three s) sectors nodes run ≡ geometry.superblock s run
encoded_large s sectors nodes run has = ap₂ (λ (a b : ℕ). layout.superblock 3 a b run (rest_of s)) (sym has.1) (sym has.2) ∙ large_first s run

-- the version is read back
pub version_back : (version : VersionNumber) (sectors nodes run : ℕ) → HasSizes version sectors nodes → version_in (superblock version sectors nodes run) ≡ version
version_back One sectors nodes run has = rw (word_version One sectors nodes run) refl
version_back Two sectors nodes run has = rw (word_version Two sectors nodes run) refl
version_back (Three s) sectors nodes run has =
    rw (word_version (Three s) sectors nodes run) (ap (λ (of : Superblock). Three of) (ap superblock_in (encoded_large s sectors nodes run has) ∙ superblock-back s run has.0))

starts_with_magic : (version : VersionNumber) (sectors nodes run : ℕ) → starts_with eqb (superblock version sectors nodes run) magic ≡ true
unfolding layout.superblock
starts_with_magic version sectors nodes run = refl

-- the first sector of a volume says that it is one

early_first : (version : VersionNumber) (sectors nodes run : ℕ) → (eqb (number_of_version version) 1 || eqb (number_of_version version) 2) ≡ true
    → sectors < 2 ^ 32 → nodes < 2 ^ 32 → IsTrue (is_size sectors nodes) → is_early sectors (superblock version sectors nodes run) ≡ true
unfolding is_early
early_first version sectors nodes run early small few size =
    rw (
      starts_with_magic version sectors nodes run,
      word_version version sectors nodes run,
      early,
      eq-eqb (word 12 (superblock version sectors nodes run)) sectors (word_sectors version sectors nodes run small),
      word_nodes version sectors nodes run few,
    ) size

found_is : (volume : Bool) (there s : Superblock) → (let found : Option Superblock = if volume then Some there else None in found ≡ Some s) → (volume ≡ true) × (there ≡ s)
found_is true there s found = (refl, cc)
found_is false there s found = absurd (cc)

found_not : (volume : Bool) (there : Superblock) → (let found : Option Superblock = if volume then Some there else None in found ≡ None) → volume ≡ false
found_not true there found = absurd (cc)
found_not false there found = refl

pub volume_first : (version : VersionNumber) (sectors nodes run : ℕ) → sectors < 2 ^ 32 → nodes < 2 ^ 32 → IsNumber version → IsTrue (size_by version sectors nodes)
    → is_volume sectors (superblock version sectors nodes run) ≡ true
unfolding is_volume
volume_first One sectors nodes run small few number size = rw (early_first One sectors nodes run refl small few size) refl
volume_first Two sectors nodes run small few number size = rw (early_first Two sectors nodes run refl small few size) refl
volume_first (Three s) sectors nodes run small few number size =
    let has = has_sizes (Three s) sectors nodes number size in
    let large : reading.is_volume sectors (superblock (Three s) sectors nodes run) ≡ true =
    ap₂ (λ (n : ℕ) (sector : List ℕ). reading.is_volume n sector) (sym has.1) (encoded_large s sectors nodes run has)
    ∙ (found_is (reading.is_volume s.geometry.sectors (geometry.superblock s run)) (superblock_in (geometry.superblock s run)) s (found-back s run number)).0 in
    ap (λ (b : Bool). is_early sectors (superblock (Three s) sectors nodes run) || b) large ∙ or-true (is_early sectors (superblock (Three s) sectors nodes run))

-- Which version a first sector gives

pub one_in : (sector : List ℕ) → word 8 sector ≡ 1 → version_in sector ≡ One
one_in sector is = rw is refl

pub two_in : (sector : List ℕ) → word 8 sector ≡ 2 → version_in sector ≡ Two
two_in sector is = rw is refl

module _ (sectors : ℕ) (sector : List ℕ) where
  pub record IsEarly : Type 0 where
    pub version : (word 8 sector ≡ 1) ⊎ (word 8 sector ≡ 2)
    pub sized : IsTrue (is_size sectors (word 16 sector))

  -- of version 1 or 2
  pub early_parts : is_early sectors sector ≡ true → IsEarly
  unfolding is_early
  early_parts is =
      let all = and_parts (starts_with eqb sector magic && (eqb (word 8 sector) 1 || eqb (word 8 sector) 2) && eqb (word 12 sector) sectors) (is_size sectors (word 16 sector)) is in
      let three = and_parts (starts_with eqb sector magic && (eqb (word 8 sector) 1 || eqb (word 8 sector) 2)) (eqb (word 12 sector) sectors) all.0 in
      let two = and_parts (starts_with eqb sector magic) (eqb (word 8 sector) 1 || eqb (word 8 sector) 2) three.0 in
      record {
        version = elim (or_cases (eqb (word 8 sector) 1) (eqb (word 8 sector) 2) two.1) [
          | inl one ↦ inl (eqb-true (word 8 sector) 1 one)
          | inr two ↦ inr (eqb-true (word 8 sector) 2 two)
        ];
        sized = all.1;
      }

  early_is : is_early sectors sector ≡ true → is_volume sectors sector ≡ true
  unfolding is_volume
  early_is is = rw is refl

  pub finds_early : is_early sectors sector ≡ true → FindsVersion sectors sector (version_in sector)
  finds_early is =
      let parts = early_parts is in
      elim parts.version [
        | inl one ↦ subst (FindsVersion sectors sector) (sym (one_in sector one)) (record { volume = early_is is; version = one_in sector one; number = tt; sized = parts.sized })
        | inr two ↦ subst (FindsVersion sectors sector) (sym (two_in sector two)) (record { volume = early_is is; version = two_in sector two; number = tt; sized = parts.sized })
      ]

  -- or of version 3

  record IsLarge : Type 0 where
    version : word 8 sector ≡ 3
    sectors_are : (geometry_in sector).sectors ≡ sectors
    nodes_are : (geometry_in sector).nodes ≡ word 16 sector
    fits : Fits (geometry_in sector)

  large_parts : reading.is_volume sectors sector ≡ true → IsLarge
  unfolding reading.is_volume word geometry_in
  large_parts is =
      let at : ℕ = (geometry_in sector).sectors in
      let all = and_parts (bytes_eq (take 8 sector) (codes "NFS41VOL") && eqb (reading.version_in sector) 3 && eqb at sectors) _ is in
      let three = and_parts (bytes_eq (take 8 sector) (codes "NFS41VOL") && eqb (reading.version_in sector) 3) (eqb at sectors) all.0 in
      let two = and_parts (bytes_eq (take 8 sector) (codes "NFS41VOL")) (eqb (reading.version_in sector) 3) three.0 in
      record {
        version = eqb-true (reading.version_in sector) 3 two.1;
        sectors_are = eqb-true at sectors three.1;
        nodes_are = refl;
        fits = volume_fits sectors sector is;
      }

  large_is : reading.is_volume sectors sector ≡ true → is_volume sectors sector ≡ true
  unfolding is_volume
  large_is is = ap (λ (b : Bool). is_early sectors sector || b) is ∙ or-true (is_early sectors sector)

  pub finds_large : (s : Superblock) → found_in sectors sector ≡ Some s → IsSuperblock s → FindsVersion sectors sector (Three s)
  finds_large s found is =
      let there = found_is (reading.is_volume sectors sector) (superblock_in sector) s found in
      let parts = large_parts there.0 in
      record {
        volume = large_is there.0;
        version = rw parts.version (ap (λ (of : Superblock). Three of) there.1);
        number = is;
        sized = rw (
          eq-eqb s.geometry.sectors sectors (sym (ap (λ (of : Superblock). of.geometry.sectors) there.1) ∙ parts.sectors_are),
          eq-eqb s.geometry.nodes (word 16 sector) (sym (ap (λ (of : Superblock). of.geometry.nodes) there.1) ∙ parts.nodes_are),
        ) refl;
      }

  pub finds_none : is_early sectors sector ≡ false → found_in sectors sector ≡ None → is_volume sectors sector ≡ false
  unfolding is_volume
  finds_none early found = rw (early, found_not (reading.is_volume sectors sector) (superblock_in sector) found) refl

-- What a sound first sector is

parts : (volume worn same : Bool) → cond (not volume) NotVolume (cond worn Worn (cond same Sound Damaged)) ≡ Sound → (volume ≡ true) × ((worn ≡ false) × (same ≡ true))
parts true false true h = (refl, (refl, refl))
parts true false false h = absurd (cc)
parts true true same h = absurd (cc)
parts false worn same h = absurd (cc)

sound_parts : (sectors : ℕ) (sector : List ℕ) → mount_verdict sectors sector ≡ Sound
    → (is_volume sectors sector ≡ true) × ((eqb (word 20 sector) last_run ≡ false) × (bytes_eq sector (superblock (version_in sector) sectors (word 16 sector) (word 20 sector)) ≡ true))
unfolding mount_verdict
sound_parts sectors sector sound = parts (is_volume sectors sector) _ _ sound

pub sound_run : (sectors : ℕ) (sector : List ℕ) → mount_verdict sectors sector ≡ Sound → word 20 sector < 2 ^ 32 → word 20 sector + 1 < 2 ^ 32
sound_run sectors sector sound fits = let apart = eqb-false (word 20 sector) last_run (sound_parts sectors sector sound).1.0 in omega (arith, apart, fits)

pub sound_first : (sectors : ℕ) (sector : List ℕ) → mount_verdict sectors sector ≡ Sound → sector ≡ superblock (version_in sector) sectors (word 16 sector) (word 20 sector)
sound_first sectors sector sound = (bytes_decides sector (superblock (version_in sector) sectors (word 16 sector) (word 20 sector))).0 (sound_parts sectors sector sound).1.1

-- no volume is on a device that is too small for one

few_sectors : (sectors nodes : ℕ) → sectors < 256 → is_size sectors nodes ≡ false
few_sectors sectors nodes few = and_left _ _ (and_left _ _ (and_left _ _ (and_left _ _ (lt-leb 256 sectors few))))

no_early : (sectors : ℕ) (sector : List ℕ) → sectors < 256 → is_early sectors sector ≡ true → ⊥
no_early sectors sector few is = let no : false ≡ true = sym (few_sectors sectors (word 16 sector) few) ∙ (early_parts sectors sector is).sized in cc

no_large : (sectors : ℕ) (sector : List ℕ) → sectors < 256 → reading.is_volume sectors sector ≡ true → ⊥
no_large sectors sector few is =
    let parts = large_parts sectors sector is in
    omega (arith, few, parts.sectors_are, parts.fits.limits.min_log, parts.fits.room)

none_on_few : (sectors : ℕ) (sector : List ℕ) → sectors < 256 → is_volume sectors sector ≡ false
unfolding is_volume
none_on_few sectors sector few = rw (
  false_from_ne_true (is_early sectors sector) (no_early sectors sector few),
  false_from_ne_true (reading.is_volume sectors sector) (no_large sectors sector few),
) refl

pub not_volume : (sectors : ℕ) (sector : List ℕ) → is_volume sectors sector ≡ false → mount_verdict sectors sector ≡ NotVolume
unfolding mount_verdict
not_volume sectors sector none = cond-true (not (is_volume sectors sector)) _ _ (ap not none)

pub not_volume_on_few : (sectors : ℕ) (sector : List ℕ) → sectors < 256 → mount_verdict sectors sector ≡ NotVolume
not_volume_on_few sectors sector few = not_volume sectors sector (none_on_few sectors sector few)

-- and one that is found there is a volume

some_volume : (worn same : Bool) → cond (not true) NotVolume (cond worn Worn (cond same Sound Damaged)) ≡ NotVolume → ⊥
some_volume true same is = cc
some_volume false true is = cc
some_volume false false is = cc

pub volume_there : (sectors : ℕ) (sector : List ℕ) → is_volume sectors sector ≡ true → mount_verdict sectors sector ≡ NotVolume → ⊥
unfolding mount_verdict
volume_there sectors sector volume none =
    some_volume _ _ (subst (λ (b : Bool). cond (not b) NotVolume (cond (eqb (word 20 sector) last_run) Worn (cond (bytes_eq sector (superblock (version_in sector) sectors (word 16 sector) (word 20 sector))) Sound Damaged)) ≡ NotVolume) volume none)
