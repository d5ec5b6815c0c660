-- A superblock that is written part by part.
use Rattle.std.proofs.Common.{◌≡◌, ◌++◌, ◌∙◌, List, ℕ, length, take, replicate, sym, ap, arith}
use Rattle.std.specs.Int.{w64, to_be_bytes}
use Rattle.std.proofs.lemmas.List.{take_all}
use Rattle.geometry.specs.Encoding.{header, superblock}
use Rattle.geometry.specs.declared.superblock.Superblock.{Superblock}

pub written : (s : Superblock) (restarts : ℕ) (head gap bytes fields all : List ℕ) → length all ≡ 4096
    → take 36 head ≡ header restarts s.geometry
    → take 40 gap ≡ take 36 head ++ replicate 4 0
    → take 48 bytes ≡ take 40 gap ++ to_be_bytes w64 s.geometry.file_bytes
    → take 64 fields ≡ take 48 bytes ++ s.identity
    → take 4096 all ≡ take 64 fields ++ replicate 4032 0
    → all ≡ superblock s restarts
unfolding superblock
written s restarts head gap bytes fields all long a b c d e =
    sym (take_all 4096 all (omega arith)) ∙ e
    ∙ ap (λ (x : List ℕ). x ++ replicate 4032 0) (d
    ∙ ap (λ (x : List ℕ). x ++ s.identity) (c
    ∙ ap (λ (x : List ℕ). x ++ to_be_bytes w64 s.geometry.file_bytes) (b
    ∙ ap (λ (x : List ℕ). x ++ replicate 4 0) a)))
