-- The first sector of a volume.
use Rattle.std.proofs.Common.{ℕ, List, ◌≡◌, ◌≤◌, ◌+◌, ◌<◌, ◌^◌, ◌&&◌, true, refl, sym, ap, ◌∙◌, subst, arith, leb, ltb}
use Rattle.std.specs.Prelude.{IsTrue, drop}
use Rattle.std.specs.Int.{w32, from_be_bytes}
use Rattle.std.proofs.lemmas.Bool.{and_parts, le-leb, lt-ltb, leb-true, ltb-true}
use Rattle.std.proofs.lemmas.Nat.{from_be_bytes-to_be_bytes_4}
use Rattle.layout.specs.CachedNodeLaws.{OneTree}
use Rattle.layout.specs.CachedNodes.{tree_in}
use Rattle.layout.specs.Stands.{Version, HasRegion, end_of, is_before_nodes}
use Rattle.layout.specs.Superblock.{superblock, is_size}

pub record Sized (size nodes : ℕ) : Type 0 where
  pub most : size ≤ 65536
  pub some : 2 ≤ nodes
  pub few : nodes ≤ 16384
  pub room : 164 + nodes ≤ size

pub sized_parts : (size nodes : ℕ) → IsTrue (is_size size nodes) → Sized size nodes
sized_parts size nodes sized =
    let all = and_parts (leb 256 size && leb size 65536 && leb 2 nodes && leb nodes 16384) (leb (164 + nodes) size) sized in
    let four = and_parts (leb 256 size && leb size 65536 && leb 2 nodes) (leb nodes 16384) all.0 in
    let three = and_parts (leb 256 size && leb size 65536) (leb 2 nodes) four.0 in
    let two = and_parts (leb 256 size) (leb size 65536) three.0 in
    record {
      most = leb-true size 65536 two.1;
      some = leb-true 2 nodes three.1;
      few = leb-true nodes 16384 four.1;
      room = leb-true (164 + nodes) size all.1;
    }

-- the number of four bytes from a place on
unfoldable word : (at : ℕ) → List ℕ → ℕ
word at sector = from_be_bytes w32 (drop at sector)

module _ (version size nodes run : ℕ) (rest : List ℕ) where
  word_size : size < 2 ^ 32 → word 12 (superblock version size nodes run rest) ≡ size
  unfolding word superblock
  word_size fits = from_be_bytes-to_be_bytes_4 size fits

  word_nodes : nodes < 2 ^ 32 → word 16 (superblock version size nodes run rest) ≡ nodes
  unfolding word superblock
  word_nodes fits = from_be_bytes-to_be_bytes_4 nodes fits

  word_run : run < 2 ^ 32 → word 20 (superblock version size nodes run rest) ≡ run
  unfolding word superblock
  word_run fits = from_be_bytes-to_be_bytes_4 run fits

-- a volume has less nodes than sectors
pub few_nodes : (version : Version) (size nodes : ℕ) → HasRegion version size nodes → nodes < 2 ^ 32
few_nodes version size nodes region = omega (arith, region.behind, region.inside, region.within, region.numbers)

-- a sector between the bitmap and the node table
pub before_nodes : (n : ℕ) → IsTrue (is_before_nodes n) → (100 ≤ n) × (n < 148)
before_nodes n is = let both = and_parts (leb 100 n) (ltb n 148) is in (leb-true 100 n both.0, ltb-true n 148 both.1)

pub is_before : (n : ℕ) → 100 ≤ n → n < 148 → is_before_nodes n ≡ true
is_before n low high = rw (le-leb 100 n low, lt-ltb n 148 high) refl

-- the parts of a volume of version 1 or 2
pub region_at_start : (version : Version) (size nodes : ℕ) → IsTrue (is_size size nodes) → version.data_end size ≡ size → end_of version size ≡ size → ((n : ℕ) → version.is_spare n ≡ is_before_nodes n)
    → HasRegion version size nodes
region_at_start version size nodes sized ends last spare =
    let parts = sized_parts size nodes sized in
    record {
      some = omega (arith, parts.some);
      behind = omega (arith, parts.room, ends);
      inside = omega (arith, ends, last);
      within = omega (arith, last);
      numbers = omega (arith, parts.most);
      spare = λ n is. (let low = before_nodes n (subst IsTrue (spare n) is) in record {
        from_first = omega (arith, low.0);
        below = omega (arith, low.1, parts.room, last);
        apart = λ far. absurd (omega (arith, far, low.1));
        unmarked = λ in_sectors. low.0;
      });
    }

pub one_tree : OneTree
one_tree a b size other_size nodes other_nodes run other_run image tree other stands_a stands_b =
    let same : superblock a.number size nodes run a.rest ≡ superblock b.number other_size other_nodes other_run b.rest = sym stands_a.first ∙ stands_b.first in
    let nodes_are : nodes ≡ other_nodes =
    sym (word_nodes a.number size nodes run a.rest (few_nodes a size nodes stands_a.region)) ∙ ap (word 16) same ∙ word_nodes b.number other_size other_nodes other_run b.rest (few_nodes b other_size other_nodes stands_b.region) in
    record {
      tree_is = stands_a.tree_is ∙ ap (λ (n : ℕ). tree_in n image) nodes_are ∙ sym stands_b.tree_is;
      size_is = sym (word_size a.number size nodes run a.rest stands_a.region.numbers) ∙ ap (word 12) same ∙ word_size b.number other_size other_nodes other_run b.rest stands_b.region.numbers;
      nodes_are = nodes_are;
      run_is = sym (word_run a.number size nodes run a.rest stands_a.counted) ∙ ap (word 20) same ∙ word_run b.number other_size other_nodes other_run b.rest stands_b.counted;
    }
