-- The values of attributes are exact.
use Rattle.std.proofs.Common.{◌≡◌, ℕ, ◌^◌, ◌<◌, Bool, true, false, List, [], ◌∷◌, ◌++◌, length, Result, Ok, Err, refl, sym, ap, subst, ◌∙◌, append_assoc, arith, map, eqb, eqb-true, cond}
use Rattle.std.specs.Prelude.{Some, None}
use Rattle.std.proofs.lemmas.List.{append-nil}
use Rattle.std.specs.List.{flat_map, AllByRecursion}
use Rattle.std.proofs.lemmas.List.Concat.{flat_map-cons}
use Rattle.xdr.specs.declared.refusal.Refusal.{Refusal}
use Rattle.xdr.specs.Grammar.{◌>>=◌, void, unsigned_int, unsigned_hyper}
use Rattle.xdr.specs.Forms.{boolean, trimmed_bitmap}
use Rattle.xdr.specs.Union.{on, no_other}
use Rattle.xdr.specs.Laws.{IsBytes, Exact, OneEncoding}
use Rattle.xdr.proofs.Steps.{bind_ok, ok_is, IsBytes-behind}
use Rattle.xdr.proofs.Numbers.{int_exact, hyper_exact}
use Rattle.xdr.proofs.Sequences.{void_exact, then_exact, of_exact, one_encoding}
use Rattle.xdr.proofs.Opaques.{opaque_exact}
use Rattle.xdr.proofs.Passing.{boolean_exact}
use Rattle.xdr.proofs.Arrays.{array_exact, trimmed_exact}
use Rattle.xdr.proofs.Unions.{TakesBy, AgainBy, on_takes, no_other_takes, union_exact, made_again}
use Rattle.model_tree.specs.declared.node.NodeKind.TheVariants as kind
use Rattle.model.specs.Wire.WireTypes.{any_opaque, file_handle}
use Rattle.model.specs.Attributes.AttributeValue.{file_system_id, time, acl_entry, entries, encoded_kind, node_kind, Value, SupportedAttrs, Kind, FhExpireType, Change, Size, LinkSupport, SymlinkSupport, NamedAttr, Fsid, UniqueHandles, LeaseTime, RdattrError, Acl, AclSupport, FileHandle, FileId, MaxFileSize, MaxName, MaxRead, MaxWrite, Mode, NumLinks, Owner, OwnerGroup, TimeModify, SuppattrExclcreat, encoded_value, value_choice, value_at, values_at, attribute_of, value_text, values, whole, ReadsWhole}

any_opaque_exact : Exact any_opaque
any_opaque_exact = opaque_exact _ (omega arith)

file_handle_exact : Exact file_handle
file_handle_exact = opaque_exact 128 (omega arith)

file_system_id_exact : Exact file_system_id
file_system_id_exact = of_exact _ _ _ (λ _. refl) (λ _. refl) (then_exact hyper_exact hyper_exact)

time_exact : Exact time
time_exact = of_exact _ _ _ (λ _. refl) (λ _. refl) (then_exact hyper_exact int_exact)

acl_entry_exact : Exact acl_entry
acl_entry_exact = of_exact _ _ _ (λ _. refl) (λ _. refl) (then_exact int_exact (then_exact int_exact (then_exact int_exact any_opaque_exact)))

pub entries_exact : Exact entries
entries_exact = array_exact _ acl_entry (omega arith) acl_entry_exact

kind_takes : TakesBy encoded_kind (λ n. n < 2 ^ 32) (on 1 void (λ _. kind.File) (on 2 void (λ _. kind.Directory) no_other))
kind_takes =
    on_takes encoded_kind _ 1 void (λ _. kind.File) _ void_exact (λ _ _. refl)
    (on_takes encoded_kind _ 2 void (λ _. kind.Directory) _ void_exact (λ _ _. refl)
    (no_other_takes encoded_kind _))

kind_again : AgainBy encoded_kind (on 1 void (λ _. kind.File) (on 2 void (λ _. kind.Directory) no_other))
kind_again kind.File rest small fits = refl
kind_again kind.Directory rest small fits = refl

node_kind_exact : Exact node_kind
node_kind_exact = union_exact _ _ kind_takes kind_again

value_takes : TakesBy encoded_value (λ _. Unit {0}) value_choice
value_takes =
    (on_takes encoded_value _ 0 trimmed_bitmap SupportedAttrs _ trimmed_exact (λ _ _. refl)
    (on_takes encoded_value _ 1 node_kind Kind _ node_kind_exact (λ _ _. refl)
    (on_takes encoded_value _ 2 unsigned_int FhExpireType _ int_exact (λ _ _. refl)
    (on_takes encoded_value _ 3 unsigned_hyper Change _ hyper_exact (λ _ _. refl)
    (on_takes encoded_value _ 4 unsigned_hyper Size _ hyper_exact (λ _ _. refl)
    (on_takes encoded_value _ 5 boolean LinkSupport _ boolean_exact (λ _ _. refl)
    (on_takes encoded_value _ 6 boolean SymlinkSupport _ boolean_exact (λ _ _. refl)
    (on_takes encoded_value _ 7 boolean NamedAttr _ boolean_exact (λ _ _. refl)
    (on_takes encoded_value _ 8 file_system_id Fsid _ file_system_id_exact (λ _ _. refl)
    (on_takes encoded_value _ 9 boolean UniqueHandles _ boolean_exact (λ _ _. refl)
    (on_takes encoded_value _ 10 unsigned_int LeaseTime _ int_exact (λ _ _. refl)
    (on_takes encoded_value _ 11 unsigned_int RdattrError _ int_exact (λ _ _. refl)
    (on_takes encoded_value _ 12 entries Acl _ entries_exact (λ _ _. refl)
    (on_takes encoded_value _ 13 unsigned_int AclSupport _ int_exact (λ _ _. refl)
    (on_takes encoded_value _ 19 file_handle FileHandle _ file_handle_exact (λ _ _. refl)
    (on_takes encoded_value _ 20 unsigned_hyper FileId _ hyper_exact (λ _ _. refl)
    (on_takes encoded_value _ 27 unsigned_hyper MaxFileSize _ hyper_exact (λ _ _. refl)
    (on_takes encoded_value _ 29 unsigned_int MaxName _ int_exact (λ _ _. refl)
    (on_takes encoded_value _ 30 unsigned_hyper MaxRead _ hyper_exact (λ _ _. refl)
    (on_takes encoded_value _ 31 unsigned_hyper MaxWrite _ hyper_exact (λ _ _. refl)
    (on_takes encoded_value _ 33 unsigned_int Mode _ int_exact (λ _ _. refl)
    (on_takes encoded_value _ 35 unsigned_int NumLinks _ int_exact (λ _ _. refl)
    (on_takes encoded_value _ 36 any_opaque Owner _ any_opaque_exact (λ _ _. refl)
    (on_takes encoded_value _ 37 any_opaque OwnerGroup _ any_opaque_exact (λ _ _. refl)
    (on_takes encoded_value _ 53 time TimeModify _ time_exact (λ _ _. refl)
    (on_takes encoded_value _ 75 trimmed_bitmap SuppattrExclcreat _ trimmed_exact (λ _ _. refl)
    (no_other_takes encoded_value _)))))))))))))))))))))))))))

value_again : (v : Value) (rest : List ℕ) → (encoded_value v).Fits → value_choice (attribute_of v) (value_text v ++ rest) ≡ Ok (v, rest)
value_again (SupportedAttrs v) rest fits = made_again trimmed_bitmap SupportedAttrs trimmed_exact v rest fits
value_again (Kind v) rest fits = made_again node_kind Kind node_kind_exact v rest fits
value_again (FhExpireType v) rest fits = made_again unsigned_int FhExpireType int_exact v rest fits
value_again (Change v) rest fits = made_again unsigned_hyper Change hyper_exact v rest fits
value_again (Size v) rest fits = made_again unsigned_hyper Size hyper_exact v rest fits
value_again (LinkSupport v) rest fits = made_again boolean LinkSupport boolean_exact v rest fits
value_again (SymlinkSupport v) rest fits = made_again boolean SymlinkSupport boolean_exact v rest fits
value_again (NamedAttr v) rest fits = made_again boolean NamedAttr boolean_exact v rest fits
value_again (Fsid v) rest fits = made_again file_system_id Fsid file_system_id_exact v rest fits
value_again (UniqueHandles v) rest fits = made_again boolean UniqueHandles boolean_exact v rest fits
value_again (LeaseTime v) rest fits = made_again unsigned_int LeaseTime int_exact v rest fits
value_again (RdattrError v) rest fits = made_again unsigned_int RdattrError int_exact v rest fits
value_again (Acl v) rest fits = made_again entries Acl entries_exact v rest fits
value_again (AclSupport v) rest fits = made_again unsigned_int AclSupport int_exact v rest fits
value_again (FileHandle v) rest fits = made_again file_handle FileHandle file_handle_exact v rest fits
value_again (FileId v) rest fits = made_again unsigned_hyper FileId hyper_exact v rest fits
value_again (MaxFileSize v) rest fits = made_again unsigned_hyper MaxFileSize hyper_exact v rest fits
value_again (MaxName v) rest fits = made_again unsigned_int MaxName int_exact v rest fits
value_again (MaxRead v) rest fits = made_again unsigned_hyper MaxRead hyper_exact v rest fits
value_again (MaxWrite v) rest fits = made_again unsigned_hyper MaxWrite hyper_exact v rest fits
value_again (Mode v) rest fits = made_again unsigned_int Mode int_exact v rest fits
value_again (NumLinks v) rest fits = made_again unsigned_int NumLinks int_exact v rest fits
value_again (Owner v) rest fits = made_again any_opaque Owner any_opaque_exact v rest fits
value_again (OwnerGroup v) rest fits = made_again any_opaque OwnerGroup any_opaque_exact v rest fits
value_again (TimeModify v) rest fits = made_again time TimeModify time_exact v rest fits
value_again (SuppattrExclcreat v) rest fits = made_again trimmed_bitmap SuppattrExclcreat trimmed_exact v rest fits

-- ---- values one after the other

values_take : (attributes bytes : List ℕ) (vs : List Value) (rest : List ℕ) → IsBytes bytes → values_at attributes bytes ≡ Ok (vs, rest)
    → (values attributes).Fits vs × (bytes ≡ flat_map value_text vs ++ rest)
unfolding values_at value_at
values_take [] bytes vs rest fits e =
    let none : List Value × List ℕ = ([], bytes) in
    let P : List Value × List ℕ → Type 0 = λ x. (values []).Fits x.0 × (bytes ≡ flat_map value_text x.0 ++ x.1) in
    subst P (ok_is none (vs, rest) e) ((refl, tt), refl)
values_take (n ∷ attributes) bytes vs rest fits e =
    let p = bind_ok (value_at n bytes) (λ x. values_at attributes x.1 >>= λ xs. Ok (x.0 ∷ xs.0, xs.1)) (vs, rest) e in
    let q = bind_ok (values_at attributes p.0.1) (λ xs. Ok (p.0.0 ∷ xs.0, xs.1)) (vs, rest) p.2 in
    let t = value_takes n bytes p.0.0 p.0.1 tt fits p.1 in
    let u = values_take attributes p.0.1 q.0.0 q.0.1 (IsBytes-behind bytes (value_text p.0.0) p.0.1 fits t.parts) q.1 in
    let got : List Value × List ℕ = (p.0.0 ∷ q.0.0, q.0.1) in
    let text : flat_map value_text (p.0.0 ∷ q.0.0) ≡ value_text p.0.0 ++ flat_map value_text q.0.0 = flat_map-cons value_text p.0.0 q.0.0 in
    let parts : bytes ≡ flat_map value_text (p.0.0 ∷ q.0.0) ++ q.0.1 =
    t.parts ∙ ap (λ (x : List ℕ). value_text p.0.0 ++ x) u.1 ∙ sym (append_assoc (value_text p.0.0) (flat_map value_text q.0.0) q.0.1) ∙ ap (λ (x : List ℕ). x ++ q.0.1) (sym text) in
    let numbers : attribute_of p.0.0 ∷ map attribute_of q.0.0 ≡ n ∷ attributes =
    ap (λ (k : ℕ). k ∷ map attribute_of q.0.0) (sym t.is_number) ∙ ap (λ (ks : List ℕ). n ∷ ks) u.0.0 in
    let P : List Value × List ℕ → Type 0 = λ x. (values (n ∷ attributes)).Fits x.0 × (bytes ≡ flat_map value_text x.0 ++ x.1) in
    subst P (ok_is got (vs, rest) q.2) ((numbers, (t.fits, u.0.1)), parts)

values_again : (vs : List Value) (rest : List ℕ) → AllByRecursion (λ v. (encoded_value v).Fits) vs → values_at (map attribute_of vs) (flat_map value_text vs ++ rest) ≡ Ok (vs, rest)
unfolding values_at value_at
values_again [] rest fits = refl
values_again (v ∷ vs) rest fits =
    rw (flat_map-cons value_text v vs, append_assoc (value_text v) (flat_map value_text vs) rest, value_again v (flat_map value_text vs ++ rest) fits.0, values_again vs rest fits.1) refl

pub values_exact : (attributes : List ℕ) → Exact (values attributes)
values_exact attributes = record {
  takes = λ bytes vs rest fits e. values_take attributes bytes vs rest fits e;
  again = λ vs rest fits. subst (λ (ns : List ℕ). values_at ns (flat_map value_text vs ++ rest) ≡ Ok (vs, rest)) fits.0 (values_again vs rest fits.1);
}

pub one_values : (attributes : List ℕ) → OneEncoding (values attributes)
one_values attributes = one_encoding (values attributes) (values_exact attributes)

-- ---- bytes that are exactly the values

empty_is : (rest : List ℕ) → length rest ≡ 0 → rest ≡ []
empty_is [] none = refl
empty_is (b ∷ rest) none = absurd (omega arith)

pub are_values : (attributes bytes : List ℕ) (vs : List Value) (rest : List ℕ) → IsBytes bytes → values_at attributes bytes ≡ Ok (vs, rest) → length rest ≡ 0
    → (values attributes).Fits vs × (bytes ≡ (values attributes).encoding vs)
are_values attributes bytes vs rest fits read none =
    let t = (values_exact attributes).takes bytes vs rest fits read in
    (t.0, t.1 ∙ ap (λ (x : List ℕ). (values attributes).encoding vs ++ x) (empty_is rest none) ∙ append-nil ((values attributes).encoding vs))

pub again : (attributes : List ℕ) (vs : List Value) (bytes : List ℕ) → (values attributes).Fits vs → bytes ≡ (values attributes).encoding vs → values_at attributes bytes ≡ Ok (vs, [])
again attributes vs bytes fits is =
    ap (values_at attributes) (is ∙ sym (append-nil ((values attributes).encoding vs))) ∙ (values_exact attributes).again vs [] fits

gave : List Value → List ℕ → Result (List Value × List ℕ) Refusal
gave vs rest = Ok (vs, rest)

whole_is : (read : Result (List Value × List ℕ) Refusal) (vs : List Value) → whole read ≡ Some vs → (rest : List ℕ) × (read ≡ gave vs rest) × (length rest ≡ 0)
unfolding gave
whole_is (Err e) vs is = absurd (cc)
whole_is (Ok x) vs is = by_rest x.0 x.1 (eqb (length x.1) 0) refl is
  where
    by_rest : (got : List Value) (rest : List ℕ) (none : Bool) → eqb (length rest) 0 ≡ none → cond none (Some got) None ≡ Some vs
        → (behind : List ℕ) × (gave got rest ≡ gave vs behind) × (length behind ≡ 0)
    by_rest got rest true none same =
        let one : got ≡ vs = cc in
        (rest, ap (λ (v : List Value). gave v rest) one, eqb-true (length rest) 0 none)
    by_rest got rest false some nothing = absurd (cc)

pub reads_whole : ReadsWhole
unfolding gave
reads_whole attributes bytes vs fits = record {
  0 = λ is.
      let read = whole_is (values_at attributes bytes) vs is in
      are_values attributes bytes vs read.0 fits read.1 read.2;
  1 = λ is. ap whole (again attributes vs bytes is.0 is.1);
}
