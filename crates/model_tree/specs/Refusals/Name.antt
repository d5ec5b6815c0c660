-- The tests of a name that a client gives, in their order: RFC 8881, sections 14.5 (UTF-8) and
-- 15.1.7 (name errors). Which status each of them returns is this server's profile.
use Rattle.std.specs.Prelude.{ℕ, Bool, List, [], ◌∷◌, not, ◌||◌, ◌==◌, nat_lt, length, bytes_eq}
use Rattle.std.specs.List.{list_any}
use Rattle.std.specs.Str.{is_utf8}
use Rattle.model_tree.specs.declared.status.Status.TheVariants as status
use Rattle.model_tree.specs.Trees.Limits.{Limits}
use Rattle.model_tree.specs.Refusals.Refusal.{Refusals}

-- 47 is `/`
abbrev pub parts_a_path : List ℕ → Bool
parts_a_path name = list_any (λ byte. (byte == 47) || (byte == 0)) name

-- 46 is `.`
abbrev pub is_dot_or_dots : List ℕ → Bool
is_dot_or_dots name = bytes_eq name (46 ∷ []) || bytes_eq name (46 ∷ 46 ∷ [])

unfoldable pub name_refusals : Limits → List ℕ → Refusals
name_refusals limits name =
    (length name == 0, status.Inval)
    ∷ (nat_lt limits.name_bytes (length name), status.NameTooLong)
    ∷ (not (is_utf8 name), status.Inval)
    ∷ (parts_a_path name, status.BadChar)
    ∷ (is_dot_or_dots name, status.BadName)
    ∷ []
