-- The clients that a session ends, given by their numbers.
use Rattle.std.proofs.Common.{◌≡◌, ℕ, ◌<◌, not, ◌&&◌, ◌==◌, List, map, filter, length, get_or, refl, sym, ap, ◌∙◌}
use Rattle.std.proofs.lemmas.List.{get_or_default}
use Rattle.std.proofs.lemmas.Bool.{eqb-true, ne_eqb, eq-eqb}
use Rattle.model.specs.Sessions.Session.{is_client, is_replaced_by, without_where, Client as Known}
use Rattle.model_tree.proofs.Facts.BooleanLaws.{and_false, and_true}
use Rattle.model.proofs.Operations.NodeAttributeLaws.{filter-map}
use Rattle.session.specs.declared.client.Client.{Client}
use Rattle.session.specs.Views.{client_of, among}
use Rattle.session.specs.Rooms.{ended_by}
use Rattle.session.proofs.Lists.{Rises, OneKey, same_place, list_any-map, any_filtered, any_one, filter_agree_at}

abbrev pub number_of : Client → ℕ
number_of client = client.number

-- the records of one number are one
pub one_client : (number : ℕ) (clients : List Client) → OneKey client_of number_of (is_client number) clients
one_client number clients j k d within within' here here' = eqb-true _ _ here ∙ sym (eqb-true _ _ here')

-- whether a record of the list ends is the same as whether its number is among those that end
ends : (client : Known) (clients : List Client) → Rises number_of clients → (k : ℕ) (d : Client) → k < length clients
    → among (ended_by client (map client_of clients)) (get_or clients k d).number ≡ is_replaced_by client (client_of (get_or clients k d))
ends client clients rises k d within =
    let here = get_or clients k d in
    any_filtered (λ known. known == here.number) (λ (other : Known). other.number) (is_replaced_by client) (map client_of clients)
    ∙ list_any-map (λ (other : Known). is_replaced_by client other && (other.number == here.number)) client_of clients
    ∙ any_one (λ (other : Client). is_replaced_by client (client_of other) && (other.number == here.number)) clients k d within
    (λ j e within' other.
    ap (λ b. is_replaced_by client (client_of (get_or clients j e)) && b)
    (ne_eqb _ _ (λ same. same_place number_of clients rises j k e within' within (same ∙ ap number_of (get_or_default clients k d e within)) other))
    ∙ and_false (is_replaced_by client (client_of (get_or clients j e))))
    ∙ ap (λ b. is_replaced_by client (client_of here) && b) (eq-eqb here.number here.number refl)
    ∙ and_true (is_replaced_by client (client_of here))

pub ended_out : (client : Known) (clients left : List Client) (ended : List ℕ) → Rises number_of clients → ended ≡ ended_by client (map client_of clients)
    → left ≡ filter (λ (known : Client). not (among ended known.number)) clients
    → map client_of left ≡ without_where (is_replaced_by client) (map client_of clients)
ended_out client clients left ended rises e kept =
    ap (map client_of)
    (kept ∙ ap (λ numbers. filter (λ (known : Client). not (among numbers known.number)) clients) e
    ∙ filter_agree_at (λ (known : Client). not (among (ended_by client (map client_of clients)) known.number)) (λ (known : Client). not (is_replaced_by client (client_of known))) clients
    (λ k d within. ap not (ends client clients rises k d within)))
    ∙ sym (filter-map (λ known. not (is_replaced_by client known)) client_of clients)
