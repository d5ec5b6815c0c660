-- What is read from the left leaves the last bytes.
use Rattle.std.proofs.Common.{◌≡◌, ℕ, ◌+◌, ◌-◌, ◌≤◌, ltb, List, length, take, drop, cond, Ok, Err, refl, sym, ap, ap₂, subst, ◌∙◌, arith}
use Rattle.std.specs.Int.{w32, byte_len, from_be_bytes}
use Rattle.std.proofs.lemmas.Bool.{ltb-false}
use Rattle.std.proofs.lemmas.List.{drop-drop, length-drop}
use Rattle.xdr.specs.declared.refusal.Refusal.TheVariants.{Short, Value, Long}
use Rattle.xdr.specs.Grammar.{Grammar, ◌>>=◌, ◌&◌, number_at, unsigned_int}
use Rattle.xdr.specs.Forms.{padding, are_zeros, padded_at, counted_at, opaque}
use Rattle.xdr.proofs.Opaques.{padded_takes}
use Rattle.xdr.proofs.Steps.{bind_ok, guard_ok, pass_ok, ok_is}
use Rattle.model.specs.Wire.Rpc.{Compound, opaque_auth, call_start, call_header, compound_head}
use Rattle.rpc.specs.Places.{EndsWith, StandsIn}

ends_from : (k : ℕ) (bytes part : List ℕ) → k ≤ length bytes → drop k bytes ≡ part → EndsWith bytes part
ends_from k bytes part within is =
    let size : length bytes - length part ≡ k = omega (arith, ap length is, length-drop k bytes) in
    ap (λ (n : ℕ). drop n bytes) size ∙ is

ends_short : (bytes part : List ℕ) → EndsWith bytes part → length part ≤ length bytes
ends_short bytes part is = omega (arith, ap length is, length-drop (length bytes - length part) bytes)

pub ends_on : (bytes part rest : List ℕ) → EndsWith bytes part → EndsWith part rest → EndsWith bytes rest
ends_on bytes part rest first second =
    let low = ends_short bytes part first in
    let lower = ends_short part rest second in
    let sum : length bytes - length rest ≡ (length bytes - length part) + (length part - length rest) = omega arith in
    ap (λ (n : ℕ). drop n bytes) sum
    ∙ (sym (drop-drop (length part - length rest) (length bytes - length part) bytes)
    ∙ (ap (drop (length part - length rest)) first ∙ second))

-- what a grammar reads leaves the last bytes
abbrev pub LeavesEnd : {V : Type 0} → Grammar V → Type 0
LeavesEnd {V = V} g = (bytes : List ℕ) (v : V) (rest : List ℕ) → g.read bytes ≡ Ok (v, rest) → EndsWith bytes rest

-- a number is the first 4 bytes
number_is : (bytes : List ℕ) (n : ℕ) (rest : List ℕ) → number_at w32 bytes ≡ Ok (n, rest) → (4 ≤ length bytes) × (drop 4 bytes ≡ rest)
unfolding number_at
number_is bytes n rest e =
    let whole : ℕ × List ℕ = (from_be_bytes w32 (take 4 bytes), drop 4 bytes) in
    let g = guard_ok (ltb (length bytes) 4) Short (Ok whole) (n, rest) e in
    (ltb-false _ _ g.0, ap (λ (p : ℕ × List ℕ). p.1) (ok_is whole (n, rest) g.1))

int_ends : LeavesEnd unsigned_int
int_ends bytes n rest e =
    let is = number_is bytes n rest e in
    ends_from 4 bytes rest is.0 is.1

-- opaque data are the bytes behind their number
record IsOpaque (bytes text rest : List ℕ) : Type 0 where
  within : 4 + length text ≤ length bytes
  text_is : take (length text) (drop 4 bytes) ≡ text
  ends : EndsWith bytes rest

opaque_is : (limit : ℕ) (bytes text rest : List ℕ) → counted_at limit bytes ≡ Ok (text, rest) → IsOpaque bytes text rest
unfolding counted_at padded_at
opaque_is limit bytes text rest e =
    let p = bind_ok (number_at w32 bytes) (λ n. cond (ltb limit n.0) (Err Long) (padded_at n.0 n.1)) (text, rest) e in
    let n = p.0.0 in
    let behind = p.0.1 in
    let first = number_is bytes n behind p.1 in
    let four = first.0 in
    let g = guard_ok (ltb limit n) Long (padded_at n behind) (text, rest) p.2 in
    let pad = padding n in
    let whole : List ℕ × List ℕ = (take n behind, drop (n + pad) behind) in
    let long = guard_ok (ltb (length behind) (n + pad)) Short (cond (are_zeros (take pad (drop n behind))) (Ok whole) (Err Value)) (text, rest) g.1 in
    let zeros = pass_ok (are_zeros (take pad (drop n behind))) Value (Ok whole) (text, rest) long.1 in
    let enough : n + pad ≤ length behind = ltb-false _ _ long.0 in
    let same : whole ≡ (text, rest) = ok_is whole (text, rest) zeros.1 in
    let size : length text ≡ n = (padded_takes n behind text rest g.1).0 in
    let start : length behind ≡ length bytes - 4 = ap length (sym first.1) ∙ length-drop 4 bytes in
    record {
      within = omega arith;
      text_is = ap (λ (m : ℕ). take m (drop 4 bytes)) size ∙ (ap (take n) first.1 ∙ ap (λ (q : List ℕ × List ℕ). q.0) same);
      ends = ends_on bytes behind rest (ends_from 4 bytes behind four first.1)
          (ends_from (n + pad) behind rest enough (ap (λ (q : List ℕ × List ℕ). q.1) same));
    }

opaque_ends : (limit : ℕ) → LeavesEnd (opaque limit)
opaque_ends limit bytes text rest e = (opaque_is limit bytes text rest e).ends

then_ends : {A B : Type 0} (a : Grammar A) (b : Grammar B) → LeavesEnd a → LeavesEnd b → LeavesEnd (a & b)
then_ends {A = A} {B = B} a b first second bytes v rest e =
    let p = bind_ok (a.read bytes) (λ x. b.read x.1 >>= λ y. Ok ((x.0, y.0), y.1)) (v, rest) e in
    let q = bind_ok (b.read p.0.1) (λ y. Ok ((p.0.0, y.0), y.1)) (v, rest) p.2 in
    let got : (A × B) × List ℕ = ((p.0.0, q.0.0), q.0.1) in
    subst (EndsWith bytes) (ap (λ (r : (A × B) × List ℕ). r.1) (ok_is got (v, rest) q.2))
    (ends_on bytes p.0.1 q.0.1 (first bytes p.0.0 p.0.1 p.1) (second p.0.1 q.0.0 q.0.1 q.1))

pub start_ends : LeavesEnd call_start
start_ends = then_ends unsigned_int (unsigned_int & unsigned_int) int_ends (then_ends unsigned_int unsigned_int int_ends int_ends)

auth_ends : LeavesEnd opaque_auth
auth_ends = then_ends unsigned_int (opaque 400) int_ends (opaque_ends 400)

pub header_ends : LeavesEnd call_header
header_ends =
    then_ends unsigned_int (unsigned_int & (unsigned_int & (opaque_auth & opaque_auth))) int_ends
    (then_ends unsigned_int (unsigned_int & (opaque_auth & opaque_auth)) int_ends
    (then_ends unsigned_int (opaque_auth & opaque_auth) int_ends (then_ends opaque_auth opaque_auth auth_ends auth_ends)))

head_ends : LeavesEnd compound_head
head_ends = then_ends (opaque 255) (unsigned_int & unsigned_int) (opaque_ends 255) (then_ends unsigned_int unsigned_int int_ends int_ends)

record HasTag (bytes tag : List ℕ) : Type 0 where
  within : 4 + length tag ≤ length bytes
  tag_is : take (length tag) (drop 4 bytes) ≡ tag

-- the arguments of a COMPOUND whose head is read
pub stands : (bytes body : List ℕ) (head : List ℕ × (ℕ × ℕ)) (rest operations : List ℕ) → bytes ≡ body → operations ≡ rest → compound_head.read bytes ≡ Ok (head, rest)
    → StandsIn body (record { tag = head.0; count = head.1.1; operations = operations })
stands bytes body head rest operations same is e =
    let p = bind_ok ((opaque 255).read bytes) (λ x. (unsigned_int & unsigned_int).read x.1 >>= λ y. Ok ((x.0, y.0), y.1)) (head, rest) e in
    let q = bind_ok ((unsigned_int & unsigned_int).read p.0.1) (λ y. Ok ((p.0.0, y.0), y.1)) (head, rest) p.2 in
    let tag = opaque_is 255 bytes p.0.0 p.0.1 p.1 in
    let got : (List ℕ × (ℕ × ℕ)) × List ℕ = ((p.0.0, q.0.0), q.0.1) in
    let tag_is : p.0.0 ≡ head.0 = ap (λ (r : (List ℕ × (ℕ × ℕ)) × List ℕ). r.0.0) (ok_is got (head, rest) q.2) in
    let found : HasTag bytes head.0 = subst (HasTag bytes) tag_is (record { within = tag.within; tag_is = tag.text_is }) in
    let here : StandsIn bytes (record { tag = head.0; count = head.1.1; operations = operations }) =
    record {
      within = found.within;
      tag = found.tag_is;
      operations = subst (EndsWith bytes) (sym is) (head_ends bytes head rest e);
    } in
    subst (λ (whole : List ℕ). StandsIn whole (record { tag = head.0; count = head.1.1; operations = operations })) same here

-- and their record: it has the COMPOUND as they have it
pub stands_there : (bytes body : List ℕ) (compound : Compound) → EndsWith bytes body → StandsIn body compound
    → (let one : Compound = record {
      tag = take (length compound.tag) (drop (length bytes - length body + 4) bytes);
      count = compound.count;
      operations = drop (length bytes - length compound.operations) bytes;
    } in one) ≡ compound
stands_there bytes body compound ends there =
    let behind : drop (length bytes - length body + 4) bytes ≡ drop 4 body = sym (drop-drop 4 (length bytes - length body) bytes) ∙ ap (drop 4) ends in
    ap₂ (λ (tag operations : List ℕ). let one : Compound = record { tag = tag; count = compound.count; operations = operations } in one)
    (ap (take (length compound.tag)) behind ∙ there.tag) (ends_on bytes body compound.operations ends there.operations)
