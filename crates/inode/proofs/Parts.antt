-- The parts of a node's sector.
use Rattle.std.proofs.Common.{◌≡◌, ◌≤◌, ◌+◌, ◌-◌, ◌*◌, ℕ, List, ◌++◌, length, get_or, take, drop, replicate, refl, sym, ap, ◌∙◌, arith, append_assoc}
use Rattle.std.specs.List.{flat_map}
use Rattle.std.specs.Int.{w16, to_be_bytes, from_be_bytes}
use Rattle.std.proofs.lemmas.List.{length-append, length-replicate, drop-drop, drop_at}
use Rattle.std.proofs.lemmas.Nat.{from_be_bytes-to_be_bytes_2}
use Rattle.model_tree.specs.declared.node.NodeKind.{NodeKind}
use Rattle.model_tree.specs.declared.acl.Ace.{Ace}
use Rattle.sector.specs.Placed.{IsNumberAt}
use Rattle.sector.specs.Records.{length-records}
use Rattle.inode.specs.declared.node.Form.{Form}
use Rattle.inode.specs.declared.node.Form.TheVariants.{One, Two}
use Rattle.inode.specs.Fields.{Fields, IsInode, most_entries}
use Rattle.inode.specs.Encoding.{inode_sector, kind_byte, second_count, nine, number_bytes, ace_bytes, acl_bytes}
use Rattle.inode.specs.Reading.{count_in}
use Rattle.inode.proofs.EntryLemmas.{numbers_wide}

-- each form has room for 40 entries
pub least_entries : (form : Form) → 40 ≤ most_entries form
least_entries One = omega arith
least_entries Two = omega arith

-- from the second number of entries on, after the run sectors, and after the entries
abbrev pub from_count : Form → Fields → List ℕ
from_count form fields = to_be_bytes w16 (second_count form (length fields.acl)) ++ (replicate 42 0 ++ acl_bytes fields.acl)

abbrev pub rest_of_numbers : Form → Fields → List ℕ
rest_of_numbers form fields = replicate (36 - 4 * length fields.run_sectors) 0 ++ from_count form fields

abbrev pub rest_of_acl : Fields → List ℕ
rest_of_acl fields = replicate (3968 - 16 * length fields.acl) 0

pub kind_there : (form : Form) (fields : Fields) (sector : List ℕ) → sector ≡ inode_sector form fields → get_or sector 4 0 ≡ kind_byte fields.kind
unfolding inode_sector
kind_there One fields sector e = ap (λ (s : List ℕ). get_or s 4 0) e
kind_there Two fields sector e = ap (λ (s : List ℕ). get_or s 4 0) e

pub runs_there : (form : Form) (fields : Fields) (sector : List ℕ) → sector ≡ inode_sector form fields → IsInode form fields → (n : ℕ) → IsNumberAt 2 sector 6 n → n ≡ fields.runs
unfolding inode_sector
runs_there One fields sector e fits n reads = reads fields.runs (drop 8 (inode_sector One fields)) (omega (arith, fits.runs)) (ap (drop 6) e)
runs_there Two fields sector e fits n reads = reads fields.runs (drop 8 (inode_sector Two fields)) (omega (arith, fits.runs)) (ap (drop 6) e)

pub number_there : (form : Form) (fields : Fields) (sector : List ℕ) → sector ≡ inode_sector form fields → IsInode form fields → (n : ℕ) → IsNumberAt 8 sector 8 n → n ≡ fields.number
unfolding inode_sector
number_there One fields sector e fits n reads = reads fields.number (drop 16 (inode_sector One fields)) fits.number (ap (drop 8) e)
number_there Two fields sector e fits n reads = reads fields.number (drop 16 (inode_sector Two fields)) fits.number (ap (drop 8) e)

pub owner_there : (form : Form) (fields : Fields) (sector : List ℕ) → sector ≡ inode_sector form fields → IsInode form fields → (n : ℕ) → IsNumberAt 4 sector 16 n → n ≡ fields.owner
unfolding inode_sector
owner_there One fields sector e fits n reads = reads fields.owner (drop 20 (inode_sector One fields)) fits.owner (ap (drop 16) e)
owner_there Two fields sector e fits n reads = reads fields.owner (drop 20 (inode_sector Two fields)) fits.owner (ap (drop 16) e)

pub group_there : (form : Form) (fields : Fields) (sector : List ℕ) → sector ≡ inode_sector form fields → IsInode form fields → (n : ℕ) → IsNumberAt 4 sector 20 n → n ≡ fields.group
unfolding inode_sector
group_there One fields sector e fits n reads = reads fields.group (drop 24 (inode_sector One fields)) fits.group (ap (drop 20) e)
group_there Two fields sector e fits n reads = reads fields.group (drop 24 (inode_sector Two fields)) fits.group (ap (drop 20) e)

pub change_there : (form : Form) (fields : Fields) (sector : List ℕ) → sector ≡ inode_sector form fields → IsInode form fields → (n : ℕ) → IsNumberAt 8 sector 24 n → n ≡ fields.change
unfolding inode_sector
change_there One fields sector e fits n reads = reads fields.change (drop 32 (inode_sector One fields)) fits.change (ap (drop 24) e)
change_there Two fields sector e fits n reads = reads fields.change (drop 32 (inode_sector Two fields)) fits.change (ap (drop 24) e)

pub time_there : (form : Form) (fields : Fields) (sector : List ℕ) → sector ≡ inode_sector form fields → IsInode form fields → (n : ℕ) → IsNumberAt 8 sector 32 n → n ≡ fields.time_modify
unfolding inode_sector
time_there One fields sector e fits n reads = reads fields.time_modify (drop 40 (inode_sector One fields)) fits.time_modify (ap (drop 32) e)
time_there Two fields sector e fits n reads = reads fields.time_modify (drop 40 (inode_sector Two fields)) fits.time_modify (ap (drop 32) e)

pub size_there : (form : Form) (fields : Fields) (sector : List ℕ) → sector ≡ inode_sector form fields → IsInode form fields → (n : ℕ) → IsNumberAt 8 sector 40 n → n ≡ fields.size
unfolding inode_sector
size_there One fields sector e fits n reads = reads fields.size (drop 48 (inode_sector One fields)) fits.size (ap (drop 40) e)
size_there Two fields sector e fits n reads = reads fields.size (drop 48 (inode_sector Two fields)) fits.size (ap (drop 40) e)

behind_head : (form : Form) (fields : Fields) (sector : List ℕ) → sector ≡ inode_sector form fields → drop 48 sector ≡ nine fields.run_sectors ++ to_be_bytes w16 (second_count form (length fields.acl)) ++ replicate 42 0 ++ acl_bytes fields.acl
unfolding inode_sector
behind_head One fields sector e = ap (drop 48) e
behind_head Two fields sector e = ap (drop 48) e

numbers_there : (form : Form) (fields : Fields) (sector : List ℕ) → sector ≡ inode_sector form fields → drop 48 sector ≡ nine fields.run_sectors ++ from_count form fields
numbers_there form fields sector e =
    let count : List ℕ = to_be_bytes w16 (second_count form (length fields.acl)) in
    behind_head form fields sector e
    ∙ append_assoc (nine fields.run_sectors ++ count) (replicate 42 0) (acl_bytes fields.acl)
    ∙ append_assoc (nine fields.run_sectors) count (replicate 42 0 ++ acl_bytes fields.acl)

pub run_sectors_there : (form : Form) (fields : Fields) (sector : List ℕ) → sector ≡ inode_sector form fields → drop 48 sector ≡ flat_map number_bytes fields.run_sectors ++ rest_of_numbers form fields
run_sectors_there form fields sector e =
    numbers_there form fields sector e
    ∙ append_assoc (flat_map number_bytes fields.run_sectors) (replicate (36 - 4 * length fields.run_sectors) 0) (from_count form fields)

length-nine : (numbers : List ℕ) → length numbers ≤ 9 → length (nine numbers) ≡ 36
length-nine numbers few =
    let records : length (flat_map number_bytes numbers) ≡ 4 * length numbers = length-records number_bytes 4 numbers_wide numbers in
    let zeros : length (replicate {A = ℕ} (36 - 4 * length numbers) 0) ≡ 36 - 4 * length numbers = length-replicate (36 - 4 * length numbers) 0 in
    let whole : length (nine numbers) ≡ length (flat_map number_bytes numbers) + length (replicate {A = ℕ} (36 - 4 * length numbers) 0) = length-append (flat_map number_bytes numbers) (replicate (36 - 4 * length numbers) 0) in
    omega arith

second_there : (form : Form) (fields : Fields) (sector : List ℕ) → sector ≡ inode_sector form fields → IsInode form fields → drop 84 sector ≡ from_count form fields
second_there form fields sector e fits =
    let few : length fields.run_sectors ≤ 9 = omega (arith, fits.runs, fits.run_sectors) in
    sym (drop-drop 36 48 sector) ∙ ap (drop 36) (numbers_there form fields sector e)
    ∙ drop_at (nine fields.run_sectors) (from_count form fields) 36 (length-nine fields.run_sectors few)

pub count_there : (form : Form) (fields : Fields) (sector : List ℕ) → sector ≡ inode_sector form fields → IsInode form fields → count_in form sector ≡ length fields.acl
unfolding inode_sector
count_there One fields sector e fits = ap (λ (s : List ℕ). get_or s 5 0) e
count_there Two fields sector e fits =
    ap (from_be_bytes w16) (second_there Two fields sector e fits) ∙ from_be_bytes-to_be_bytes_2 (length fields.acl) (omega (arith, fits.acl))

pub acl_there : (form : Form) (fields : Fields) (sector : List ℕ) → sector ≡ inode_sector form fields → IsInode form fields → drop 128 sector ≡ flat_map ace_bytes fields.acl ++ rest_of_acl fields
acl_there form fields sector e fits = sym (drop-drop 44 84 sector) ∙ ap (drop 44) (second_there form fields sector e fits)

-- fields are what they are made of
pub same_fields : (kind : NodeKind) (number owner group change time_modify size runs : ℕ) (run_sectors : List ℕ) (acl : List Ace) (fields : Fields) → kind ≡ fields.kind → number ≡ fields.number → owner ≡ fields.owner
    → group ≡ fields.group → change ≡ fields.change → time_modify ≡ fields.time_modify → size ≡ fields.size → runs ≡ fields.runs → run_sectors ≡ fields.run_sectors → acl ≡ fields.acl
    → (let made : Fields = record { kind = kind; number = number; owner = owner; group = group; change = change; time_modify = time_modify; size = size; runs = runs; run_sectors = run_sectors; acl = acl } in made ≡ fields)
same_fields kind number owner group change time_modify size runs run_sectors acl fields a b c d e f g h i j = rw (a, b, c, d, e, f, g, h, i, j) refl

-- a sector that was written part by part
pub inode_sector-written : (form : Form) (fields : Fields) (s1 s2 s3 s4 s5 h c : List ℕ) → h ≡ nine fields.run_sectors → c ≡ to_be_bytes w16 (second_count form (length fields.acl)) → take 84 s2 ≡ take 48 s1 ++ h → take 86 s3 ≡ take 84 s2 ++ c
    → take 128 s4 ≡ take 86 s3 ++ replicate 42 0 → s5 ≡ take 128 s4 ++ acl_bytes fields.acl
    → (head : List ℕ) → take 48 s1 ≡ head → s5 ≡ head ++ nine fields.run_sectors ++ to_be_bytes w16 (second_count form (length fields.acl)) ++ replicate 42 0 ++ acl_bytes fields.acl
inode_sector-written form fields s1 s2 s3 s4 s5 h c same count f2 f3 f4 f5 head f1 =
    let numbers : take 84 s2 ≡ head ++ nine fields.run_sectors = f2 ∙ ap (λ (x : List ℕ). x ++ h) f1 ∙ ap (λ (x : List ℕ). head ++ x) same in
    let counted : take 86 s3 ≡ head ++ nine fields.run_sectors ++ to_be_bytes w16 (second_count form (length fields.acl)) =
    f3 ∙ ap (λ (x : List ℕ). x ++ c) numbers ∙ ap (λ (x : List ℕ). head ++ nine fields.run_sectors ++ x) count in
    f5 ∙ ap (λ (x : List ℕ). x ++ acl_bytes fields.acl) (f4 ∙ ap (λ (x : List ℕ). x ++ replicate 42 0) counted)
