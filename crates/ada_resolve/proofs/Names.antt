-- Names and numbers in lists, and what they stand for.

use Rattle.std.proofs.Common.{◌≡◌, ◌∙◌, ◌≤◌, ℕ, zero, suc, List, [], ◌∷◌, ◌++◌, map, reverse, length, refl, ap, sym, ◌+◌, bytes_eq, Option, Some, None, slice_get, slice_set, true, false, ◌==◌, ◌&&◌, arith, append-nil}
use Rattle.std.specs.Map.{lookup}
use Rattle.std.specs.Prelude.{if◌then◌else◌, option_map, Bool}
use Rattle.std.proofs.lemmas.List.{length-append, length-map, reverse-append}
use Rattle.indexmap.specs.IndexMap.{insert_entry}
use Rattle.ada_resolve.specs.declared.scope.Entity.{Entity}
use Rattle.ada_resolve.specs.Known.{named, entered}
use Rattle.ada_resolve.specs.View.{named_of}
use Rattle.ada_tree.specs.Names.{ident_of}
use Rattle.ada_tree.specs.declared.names.Identifier.{Identifier}
use Rattle.ada_resolve.specs.Library.{spelled}
use Rattle.ada_program.specs.Form.{initial_form}
use Rattle.ada_program.specs.declared.program.Right.{Right}
use Rattle.ada_resolve.specs.Objects.{initial_source}
use Rattle.ada_resolve.specs.Resolution.{entity_in}
use Rattle.ada_resolve.specs.View.{right_in}
use denote.Ref.{Bor}

-- what a name stands for is what the map has for it
pub named_map : (text : List ℕ) (entries : List (Bor (List ℕ) × Entity)) → named text (map named_of entries) ≡ lookup (λ k. bytes_eq text k.now) entries
named_map text [] = refl
named_map text (e ∷ es) =
    elim (bytes_eq text e.0.now) as (λ b. (if b then Some e.1 else named text (map named_of es)) ≡ (if b then Some e.1 else lookup (λ k. bytes_eq text k.now) es))
    [ true ↦ refl | false ↦ named_map text es ]

-- a name that is entered is inserted
pub entered_map : (text : Bor (List ℕ)) (entity : Entity) (entries : List (Bor (List ℕ) × Entity)) → entered text.now entity (map named_of entries) ≡ map named_of (insert_entry (λ a b. bytes_eq a.now b.now) entries text entity)
entered_map text entity [] = refl
entered_map text entity (e ∷ es) =
    elim (bytes_eq text.now e.0.now) as (λ b. (if b then record { text = e.0.now; entity = entity } ∷ map named_of es else named_of e ∷ entered text.now entity (map named_of es)) ≡ map named_of (if b then (e.0, entity) ∷ es else e ∷ insert_entry (λ a b. bytes_eq a.now b.now) es text entity))
    [ true ↦ refl | false ↦ ap (λ ns. named_of e ∷ ns) (entered_map text entity es) ]

-- one more at the end
pub map_snoc : {X Y : Type 0} (f : X → Y) (xs : List X) (x : X) → map f (xs ++ x ∷ []) ≡ map f xs ++ f x ∷ []
map_snoc f [] x = refl
map_snoc f (y ∷ ys) x = ap (λ zs. f y ∷ zs) (map_snoc f ys x)

-- no identifiers are none
pub spelled_none : (names : List Identifier) → spelled (map ident_of names) [] ≡ (length names == 0)
unfolding spelled
spelled_none [] = refl
spelled_none (n ∷ ns) = grind arith

-- no identifiers are not one or more
pub spelled_short : (names : List Identifier) (text : List ℕ) (texts : List (List ℕ)) → length names ≡ 0 → spelled (map ident_of names) (text ∷ texts) ≡ false
unfolding spelled
spelled_short [] text texts e = refl
spelled_short (n ∷ ns) text texts e = absurd (omega arith)

-- where the first is spelled so, the others decide
pub spelled_then : (names : List Identifier) (n : Identifier) (ns : List Identifier) (text : List ℕ) (texts : List (List ℕ)) → names ≡ n ∷ ns → bytes_eq n.text.now text ≡ true → spelled (map ident_of names) (text ∷ texts) ≡ spelled (map ident_of ns) texts
unfolding spelled
spelled_then names n ns text texts e h = ap (λ (is : List Identifier). spelled (map ident_of is) (text ∷ texts)) e ∙ ap (λ (b : Bool). b && spelled (map ident_of ns) texts) h

-- where it is not, none of this are spelled so
pub spelled_else : (names : List Identifier) (n : Identifier) (ns : List Identifier) (text : List ℕ) (texts : List (List ℕ)) → names ≡ n ∷ ns → bytes_eq n.text.now text ≡ false → spelled (map ident_of names) (text ∷ texts) ≡ false
unfolding spelled
spelled_else names n ns text texts e h = ap (λ (is : List Identifier). spelled (map ident_of is) (text ∷ texts)) e ∙ ap (λ (b : Bool). b && spelled (map ident_of ns) texts) h

-- a value that is set, in what is made of each
pub map_set : {X Y : Type 0} (f : X → Y) (xs : List X) (i : ℕ) (x : X) → map f (slice_set xs i x) ≡ slice_set (map f xs) i (f x)
map_set f [] i x = refl
map_set f (y ∷ ys) zero x = refl
map_set f (y ∷ ys) (suc i) x = ap (λ zs. f y ∷ zs) (map_set f ys i x)

-- a value that is got, in what is made of each
pub map_get : {X Y : Type 0} (f : X → Y) (xs : List X) (i : ℕ) → slice_get (map f xs) i ≡ option_map f (slice_get xs i)
map_get f [] i = refl
map_get f (y ∷ ys) zero = refl
map_get f (y ∷ ys) (suc i) = map_get f ys i

-- nothing is set beyond the end
pub set_beyond : {X : Type 0} (xs : List X) (i : ℕ) (x : X) → length xs ≤ i → slice_set xs i x ≡ xs
set_beyond [] i x h = refl
set_beyond (y ∷ ys) zero x h = absurd (omega arith)
set_beyond (y ∷ ys) (suc i) x h = ap (λ zs. y ∷ zs) (set_beyond ys i x (omega arith))

-- the value that is given at first, where one is known
pub initial_same : (initial : Option Right) → initial_form initial ≡ initial_source (right_in initial)
initial_same None = refl
initial_same (Some value) = refl

-- two lists, in what is made of each
pub map_append : {X Y : Type 0} (f : X → Y) (xs ys : List X) → map f (xs ++ ys) ≡ map f xs ++ map f ys
map_append f [] ys = refl
map_append f (x ∷ xs) ys = ap (λ zs. f x ∷ zs) (map_append f xs ys)

-- what the names stand for are the map's values
pub entities_map : (entries : List (Bor (List ℕ) × Entity)) → map entity_in (map named_of entries) ≡ map (λ e. e.1) entries
entities_map [] = refl
entities_map (e ∷ es) = ap (λ (xs : List Entity). e.1 ∷ xs) (entities_map es)

-- as many texts as before, and those that are added
pub length_added : {X Y : Type 0} (f : X → Y) (xs ys : List X) (zs : List Y) → map f ys ≡ map f xs ++ zs → length ys ≡ length xs + length zs
length_added f xs ys zs e = sym (length-map ys f) ∙ ap length e ∙ length-append (map f xs) zs ∙ ap (λ (n : ℕ). n + length zs) (length-map xs f)

-- the last of these is the first of what is made of them the other way around
pub reversed_snoc : {X Y : Type 0} (f : X → Y) (xs : List X) (x : X) → reverse (map f (xs ++ x ∷ [])) ≡ f x ∷ reverse (map f xs)
reversed_snoc f xs x = ap reverse (map_snoc f xs x) ∙ reverse-append (map f xs) (f x ∷ [])

-- as many as before, in what is made of each
pub mapped_length : {X Y : Type 0} (f : X → Y) (xs : List X) → length (map f xs) ≡ length xs
mapped_length f xs = length-map xs f

-- a list with nothing behind it
pub nothing_behind : {X : Type 0} (xs : List X) → xs ++ [] ≡ xs
nothing_behind xs = append-nil xs
