-- A sector that is written part by part.
use Rattle.std.proofs.Common.{◌≡◌, ◌≤◌, ◌+◌, ◌-◌, ◌*◌, ℕ, List, ◌++◌, length, take, replicate, sym, subst, ap, ◌∙◌, arith}
use Rattle.std.specs.List.{flat_map}
use Rattle.std.proofs.lemmas.List.{take_all}
use Rattle.model_tree.specs.declared.acl.Ace.{Ace}
use Rattle.sector.specs.Records.{length-records}
use Rattle.sector.specs.Written.{AreWritten, AreWritten-zeros}
use Rattle.inode.specs.Encoding.{ace_bytes}
use Rattle.extent_tree.specs.Encoding.{entry_bytes, entries_bytes}
use Rattle.extent_tree.proofs.Bytes.{wide}
use Rattle.large_inode.specs.Fields.{Fields}
use Rattle.large_inode.specs.Encoding.{large_inode_sector, head, verifier_part, acl_part}

-- entries of an ACL, and zeros up to the extents
pub acl_written : (old mid new : List ℕ) (acl : List Ace) (end count n : ℕ) → AreWritten ace_bytes 16 128 old mid acl n → n ≡ length acl → length acl ≤ 72 → end ≡ 128 + 16 * length acl → count ≡ 1280 - end
    → take (end + length (replicate {A = ℕ} count 0)) new ≡ take end mid ++ replicate count 0 → take 1280 new ≡ take 128 old ++ acl_part acl
acl_written old mid new acl end count n far is few place left prefix =
    let all : end + count ≡ 1280 = omega arith in
    let zeros : count ≡ 1152 - 16 * length acl = omega arith in
    ap (λ (i : ℕ). take i new) (sym all)
    ∙ AreWritten-zeros ace_bytes 16 128 old mid new acl end count (subst (AreWritten ace_bytes 16 128 old mid acl) is far) place prefix
    ∙ ap (λ (k : ℕ). take 128 old ++ (flat_map ace_bytes acl ++ replicate k 0)) zeros

pub sector_written : (fields : Fields) (s1 s2 s3 s4 s5 a x : List ℕ) → length s5 ≡ 4096 → length fields.extents ≡ 256 → a ≡ acl_part fields.acl → x ≡ entries_bytes fields.extents → take 64 s1 ≡ head fields
    → take 128 s2 ≡ take 64 s1 ++ verifier_part fields.verifier → take 1280 s3 ≡ take 128 s2 ++ a → take (1280 + length x) s4 ≡ take 1280 s3 ++ x → take 4096 s5 ≡ take 3328 s4 ++ replicate 768 0
    → s5 ≡ large_inode_sector fields
unfolding large_inode_sector
sector_written fields s1 s2 s3 s4 s5 a x long many acl extents f1 f2 f3 f4 f5 =
    let end : 1280 + length x ≡ 3328 = ap (λ (bytes : List ℕ). 1280 + length bytes) extents ∙ omega (arith, length-records entry_bytes 8 wide fields.extents, many) in
    let p2 : take 128 s2 ≡ head fields ++ verifier_part fields.verifier = f2 ∙ ap (λ (bytes : List ℕ). bytes ++ verifier_part fields.verifier) f1 in
    let p3 : take 1280 s3 ≡ head fields ++ verifier_part fields.verifier ++ acl_part fields.acl = f3 ∙ ap (λ (bytes : List ℕ). bytes ++ a) p2 ∙ ap (λ (bytes : List ℕ). head fields ++ verifier_part fields.verifier ++ bytes) acl in
    let p4 : take 3328 s4 ≡ head fields ++ verifier_part fields.verifier ++ acl_part fields.acl ++ entries_bytes fields.extents =
    ap (λ (i : ℕ). take i s4) (sym end) ∙ f4 ∙ ap (λ (bytes : List ℕ). bytes ++ x) p3
    ∙ ap (λ (bytes : List ℕ). head fields ++ verifier_part fields.verifier ++ acl_part fields.acl ++ bytes) extents in
    sym (take_all 4096 s5 (omega arith)) ∙ f5 ∙ ap (λ (bytes : List ℕ). bytes ++ replicate 768 0) p4
