-- Components as the code keeps them, and as they are written.

use Rattle.std.proofs.Common.{◌≡◌, ◌∙◌, ℕ, suc, ◌+◌, Bool, true, false, cond, List, [], ◌∷◌, ◌++◌, map, length, refl, ap, sym, arith, add-zero}
use Rattle.std.specs.Prelude.{Option, Some, None, is_some, bytes_eq, not, nat_lt, slice_get, position, option_map, option_and_then, ◌||◌}
use Rattle.std.specs.List.{position_or_len}
use Rattle.std.proofs.Common.{◌<◌, drop, get_or}
use Rattle.std.proofs.lemmas.List.{drop_more}
use Rattle.std.specs.Map.{keys_of}
use Rattle.indexmap.specs.IndexMap.{insert_entry}
use denote.Ref.{Bor}
use Rattle.std.proofs.lemmas.Bool.{lt-ltb, le-ltb, ltb-true, ltb-false}
use Rattle.ada_resolve.specs.declared.components.Components.{Components}
use Rattle.ada_resolve.specs.declared.components.KnownComponent.{KnownComponent}
use Rattle.ada_program.specs.declared.program.PartKind.{PartKind}
use Rattle.ada_program.specs.ProgramForm.{PartForm}
use Rattle.ada_tree.specs.Records.{ComponentTree, component_of}
use Rattle.ada_tree.specs.declared.records.ComponentDefinition.{ComponentDefinition}
use Rattle.ada_resolve.specs.declared.notes.Notes.{Notes}
use Rattle.ada_resolve.specs.Kept.{composition_in, entry_form, forms_of, kept_from, kept_with, kind_of_known, with_component}
use Rattle.ada_program.specs.WellFormed.{parts_within}
use Rattle.ada_resolve.specs.Controlled.{limited_within}
use Rattle.ada_resolve.specs.Derived.{with_parent}
use Rattle.ada_resolve.specs.Instances.{kind_of_part}
use Rattle.ada_resolve.specs.Known.{Known}
use Rattle.ada_resolve.specs.Paths.{component_at, component_named, known_component}
use Rattle.ada_resolve.specs.Records.{Composition, component_meant, component_remark, components_remark, composed, composed_with, composition_of, further_component_remark, is_component, kind_of_component, kinds_within, no_components, size_of_component}
use Rattle.ada_resolve.specs.Remark.{Remark, both, noted}
use Rattle.ada_resolve.proofs.WellFormed.Remarks.{Quiet, noted_quiet, quiet_if}
use Rattle.ada_resolve.proofs.WellFormed.Names.{text_same, no_text, other_text}
use Rattle.ada_resolve.specs.declared.fault.NameRule.TheVariants.{DeclaredTwice}

-- a component that is added is inserted
pub with_component_map : (name : Bor (List ℕ)) (kind : PartKind) (start part : ℕ) (entries : List (Bor (List ℕ) × KnownComponent)) → with_component (record { name = name.now; kind = kind; first = start; part = part }) (map entry_form entries) ≡ map entry_form (insert_entry (λ a b. bytes_eq a.now b.now) entries name (record { kind = kind; first = start; part = part }))
with_component_map name kind start part [] = refl
with_component_map name kind start part (e ∷ es) =
    elim (bytes_eq name.now e.0.now) as (λ b. cond b (record { name = e.0.now; kind = kind; first = start; part = part } ∷ map entry_form es) (entry_form e ∷ with_component (record { name = name.now; kind = kind; first = start; part = part }) (map entry_form es)) ≡ map entry_form (cond b ((e.0, record { kind = kind; first = start; part = part }) ∷ es) (e ∷ insert_entry (λ a b. bytes_eq a.now b.now) es name (record { kind = kind; first = start; part = part }))))
    [ true ↦ refl | false ↦ ap (λ (cs : List PartForm). entry_form e ∷ cs) (with_component_map name kind start part es) ]

-- the place of the first that passes a test
first : {X : Type 0} → (X → Bool) → List X → Option ℕ
first p [] = None
first p (x ∷ xs) = cond (p x) (Some 0) (option_map suc (first p xs))

position_first : {X : Type 0} (p : X → Bool) (xs : List X) → position p xs ≡ first p xs
unfolding first
position_first p [] = refl
position_first p (x ∷ xs) = at_head (p x) (position_or_len p xs) (length xs) (first p xs) (nat_lt (position_or_len p xs) (length xs)) refl (position_first p xs)
  where
    at_head : (b : Bool) (n m : ℕ) (o : Option ℕ) (c : Bool) → nat_lt n m ≡ c → cond (nat_lt n m) (Some n) None ≡ o → cond (nat_lt (cond (not b) (1 + n) 0) (suc m)) (Some (cond (not b) (1 + n) 0)) None ≡ cond b (Some 0) (option_map suc o)
    at_head true n m o c is e = let on : nat_lt 0 (suc m) ≡ true = lt-ltb 0 (suc m) (omega arith) in rw on refl
    at_head false n m o true is e =
        let on : nat_lt (1 + n) (suc m) ≡ true = lt-ltb (1 + n) (suc m) (omega (arith, ltb-true n m is)) in
        let found : Some n ≡ o = (rw is at e) in
        let same : 1 + n ≡ suc n = omega arith in
        rw (on, sym found, same) refl
    at_head false n m o false is e =
        let off : nat_lt (1 + n) (suc m) ≡ false = le-ltb (1 + n) (suc m) (omega (arith, ltb-false n m is)) in
        let none : None ≡ o = (rw is at e) in
        rw (off, sym none) refl

first_same : (text : List ℕ) (entries : List (Bor (List ℕ) × KnownComponent)) → first (λ (k : Bor (List ℕ)). bytes_eq text k.now) (keys_of entries) ≡ first (λ (c : PartForm). bytes_eq text c.name) (map entry_form entries)
unfolding first
first_same text [] = refl
first_same text (e ∷ es) = ap (λ (o : Option ℕ). cond (bytes_eq text e.0.now) (Some 0) (option_map suc o)) (first_same text es)

named_first : (at : ℕ) (text : List ℕ) (cs : List PartForm) → component_named at text cs ≡ option_and_then (λ i. component_at (at + i) (slice_get cs i)) (first (λ (c : PartForm). bytes_eq text c.name) cs)
unfolding first
named_first at text [] = refl
named_first at text (c ∷ cs) = at_head (bytes_eq text c.name) (first (λ (c : PartForm). bytes_eq text c.name) cs) (named_first (at + 1) text cs)
  where
    at_head : (b : Bool) (o : Option ℕ) → component_named (at + 1) text cs ≡ option_and_then (λ i. component_at (at + 1 + i) (slice_get cs i)) o → cond b (Some (at, known_component c)) (component_named (at + 1) text cs) ≡ option_and_then (λ i. component_at (at + i) (slice_get (c ∷ cs) i)) (cond b (Some 0) (option_map suc o))
    at_head true o e = rw add-zero refl
    at_head false None e = e
    at_head false (Some i) e = let same : at + 1 + i ≡ at + suc i = omega arith in rw (sym same) e

-- what is found by its key is found by its name
pub found_named : (text : List ℕ) (entries : List (Bor (List ℕ) × KnownComponent)) (i : ℕ) → position (λ (k : Bor (List ℕ)). bytes_eq text k.now) (keys_of entries) ≡ Some i → component_named 0 text (map entry_form entries) ≡ component_at i (slice_get (map entry_form entries) i)
found_named text entries i e =
    let place : first (λ (c : PartForm). bytes_eq text c.name) (map entry_form entries) ≡ Some i =
    sym (first_same text entries) ∙ (sym (position_first (λ (k : Bor (List ℕ)). bytes_eq text k.now) (keys_of entries)) ∙ e) in
    named_first 0 text (map entry_form entries) ∙ (rw place (let same : 0 + i ≡ i = omega arith in rw same refl))

pub none_found : (text : List ℕ) (entries : List (Bor (List ℕ) × KnownComponent)) → position (λ (k : Bor (List ℕ)). bytes_eq text k.now) (keys_of entries) ≡ None → component_named 0 text (map entry_form entries) ≡ None
none_found text entries e =
    let place : first (λ (c : PartForm). bytes_eq text c.name) (map entry_form entries) ≡ None =
    sym (first_same text entries) ∙ (sym (position_first (λ (k : Bor (List ℕ)). bytes_eq text k.now) (keys_of entries)) ∙ e) in
    named_first 0 text (map entry_form entries) ∙ (rw place refl)

-- a component is found exactly where one has the name
pub named_is_component : (at : ℕ) (text : List ℕ) (cs : List PartForm) → is_some (component_named at text cs) ≡ is_component text cs
named_is_component at text [] = refl
named_is_component at text (c ∷ cs) = at_head (bytes_eq text c.name) (named_is_component (at + 1) text cs)
  where
    at_head : (b : Bool) → is_some (component_named (at + 1) text cs) ≡ is_component text cs → is_some (cond b (Some (at, known_component c)) (component_named (at + 1) text cs)) ≡ (b || is_component text cs)
    at_head true e = refl
    at_head false e = e

-- names stay as components are kept
either_false : (b : Bool) → (b || false) ≡ b
either_false true = refl
either_false false = refl

pub in_more : (text : List ℕ) (a : List PartForm) (c : PartForm) → is_component text (a ++ c ∷ []) ≡ (is_component text a || bytes_eq text c.name)
in_more text [] c = either_false (bytes_eq text c.name)
in_more text (d ∷ a) c = at_head (bytes_eq text d.name) (in_more text a c)
  where
    at_head : (b : Bool) → is_component text (a ++ c ∷ []) ≡ (is_component text a || bytes_eq text c.name) → (b || is_component text (a ++ c ∷ [])) ≡ ((b || is_component text a) || bytes_eq text c.name)
    at_head true e = refl
    at_head false e = e

kept_in : (text : List ℕ) (c : PartForm) (ds : List PartForm) → is_component text (with_component c ds) ≡ (is_component text ds || bytes_eq text c.name)
kept_in text c [] = in_more text [] c
kept_in text c (d ∷ ds) = at_head (bytes_eq c.name d.name) refl (bytes_eq text d.name) refl (kept_in text c ds)
  where
    at_head : (b : Bool) → bytes_eq c.name d.name ≡ b → (e : Bool) → bytes_eq text d.name ≡ e → is_component text (with_component c ds) ≡ (is_component text ds || bytes_eq text c.name) → is_component text (cond b (record { name = d.name; kind = c.kind; first = c.first; part = c.part } ∷ ds) (d ∷ with_component c ds)) ≡ ((e || is_component text ds) || bytes_eq text c.name)
    at_head true same true on h = rw on refl
    at_head true same false off h =
        let other : bytes_eq text c.name ≡ false = other_text text c.name (λ is. no_text text d.name off (is ∙ text_same c.name d.name same)) in
        rw (off, other) (sym (either_false (is_component text ds)))
    at_head false apart true on h = rw on refl
    at_head false apart false off h = rw off h

-- what is remarked depends on the names before and on how many components there are alone
same_remark : (k : Known) (a b : Composition) (cs : List ComponentTree) → ((text : List ℕ) → is_component text a.parts ≡ is_component text b.parts) → a.size ≡ b.size → components_remark k a cs ≡ components_remark k b cs
unfolding component_meant
same_remark k a b [] h s = refl
same_remark k a b (c ∷ cs) h s =
    ap (λ (r : Remark). both (further_component_remark k a c) r)
    (same_remark k (composed_with k a c) (composed_with k b c) cs
    (λ text. in_more text a.parts (component_meant k (length a.kinds) a.controlled c) ∙ (ap (λ (x : Bool). x || bytes_eq text c.name.text) (h text) ∙ sym (in_more text b.parts (component_meant k (length b.kinds) b.controlled c))))
    (ap (λ (n : ℕ). n + size_of_component k c) s)) ∙
    (ap (λ (x : Bool). both (component_remark k x (a.size + size_of_component k c) c) (components_remark k (composed_with k b c) cs)) (h c.name.text) ∙
    ap (λ (n : ℕ). both (component_remark k (is_component c.name.text b.parts) (n + size_of_component k c) c) (components_remark k (composed_with k b c) cs)) s)

-- a component, and those behind it
pub remark_next : (k : Known) (before : Composition) (c : ComponentTree) (cs : List ComponentTree) → components_remark k before (c ∷ cs) ≡ both (further_component_remark k before c) (components_remark k (kept_with k before c) cs)
unfolding kept_with
remark_next k before c cs =
    let one = component_meant k (length before.kinds) before.controlled c in
    ap (λ (r : Remark). both (further_component_remark k before c) r)
    (sym (same_remark k (kept_with k before c) (composed_with k before c) cs
    (λ text. kept_in text one before.parts ∙ sym (in_more text before.parts one)) refl))

-- one component further
pub step_meant : (k : Known) (before after end : Composition) (c : ComponentTree) (cs rest : List ComponentTree) → after ≡ kept_with k before c → rest ≡ c ∷ cs → kept_from k before rest ≡ end → kept_from k after cs ≡ end
step_meant k before after end c cs rest made next is = ap (λ (b : Composition). kept_from k b cs) made ∙ (ap (λ (xs : List ComponentTree). kept_from k before xs) (sym next) ∙ is)

pub step_remark : (k : Known) (before after : Composition) (c : ComponentTree) (cs rest : List ComponentTree) (notes later end : Notes) → after ≡ kept_with k before c → rest ≡ c ∷ cs → later ≡ noted (further_component_remark k before c) notes → noted (components_remark k before rest) notes ≡ end → noted (components_remark k after cs) later ≡ end
step_remark k before after c cs rest notes later end made next told is =
    ap (λ (b : Composition). noted (components_remark k b cs) later) made ∙
    (ap (λ (n : Notes). noted (components_remark k (kept_with k before c) cs) n) told ∙
    (ap (λ (r : Remark). noted r notes) (sym (remark_next k before c cs)) ∙
    (ap (λ (xs : List ComponentTree). noted (components_remark k before xs) notes) (sym next) ∙ is)))

-- the component at a place of a list further
pub meant_at : (k : Known) (before after end : Composition) (i : ℕ) (d : ComponentDefinition) (cs : List ComponentDefinition) → i < length cs → after ≡ kept_with k before (component_of (get_or cs i d)) → kept_from k before (map component_of (drop i cs)) ≡ end → kept_from k after (map component_of (drop (i + 1) cs)) ≡ end
meant_at k before after end i d cs less made is =
    step_meant k before after end (component_of (get_or cs i d)) (map component_of (drop (i + 1) cs)) (map component_of (drop i cs)) made (ap (λ (xs : List ComponentDefinition). map component_of xs) (drop_more cs i d less)) is

pub remark_at : (k : Known) (before after : Composition) (i : ℕ) (d : ComponentDefinition) (cs : List ComponentDefinition) (notes later end : Notes) → i < length cs → after ≡ kept_with k before (component_of (get_or cs i d)) → later ≡ noted (further_component_remark k before (component_of (get_or cs i d))) notes → noted (components_remark k before (map component_of (drop i cs))) notes ≡ end → noted (components_remark k after (map component_of (drop (i + 1) cs))) later ≡ end
remark_at k before after i d cs notes later end less made told is =
    step_remark k before after (component_of (get_or cs i d)) (map component_of (drop (i + 1) cs)) (map component_of (drop i cs)) notes later end made (ap (λ (xs : List ComponentDefinition). map component_of xs) (drop_more cs i d less)) told is

-- what a type is made of, as the code keeps it
pub parts_kept : (cs : Components) → forms_of cs ≡ (composition_in cs).parts
unfolding composition_in
parts_kept cs = refl

pub kinds_kept : (cs : Components) → cs.kinds.items ≡ (composition_in cs).kinds
unfolding composition_in
kinds_kept cs = refl

-- where a name is new, its component is last
last_one : (c : PartForm) (ds : List PartForm) → is_component c.name ds ≡ false → with_component c ds ≡ ds ++ c ∷ []
last_one c [] e = refl
last_one c (d ∷ ds) e = at_head (bytes_eq c.name d.name) e (last_one c ds)
  where
    at_head : (b : Bool) → (b || is_component c.name ds) ≡ false → (is_component c.name ds ≡ false → with_component c ds ≡ ds ++ c ∷ []) → cond b (record { name = d.name; kind = c.kind; first = c.first; part = c.part } ∷ ds) (d ∷ with_component c ds) ≡ d ∷ (ds ++ c ∷ [])
    at_head true e h = absurd (cc e)
    at_head false e h = ap (λ (xs : List PartForm). d ∷ xs) (h e)

-- where nothing is wrong, no two have one name
once : (k : Known) (before : Composition) (cs : List ComponentTree) → Quiet (components_remark k before cs) → kept_from k before cs ≡ composed k before cs
unfolding component_remark component_meant kept_with
once k before [] q = refl
once k before (c ∷ cs) q =
    let one = component_meant k (length before.kinds) before.controlled c in
    let fresh : is_component c.name.text before.parts ≡ false = quiet_if (is_component c.name.text before.parts) c.name.spot DeclaredTwice q.0.1.1.0 in
    let same : kept_with k before c ≡ composed_with k before c =
    ap (λ (ps : List PartForm). let made : Composition = record { parts = ps; kinds = before.kinds ++ kinds_within k.types (kind_of_component k c); size = before.size + size_of_component k c; controlled = before.controlled + parts_within k.types (kind_of_component k c); limited = before.limited || limited_within k.types (kind_of_component k c) } in made)
    (last_one one before.parts fresh) in
    ap (λ (b : Composition). kept_from k b cs) same ∙ once k (composed_with k before c) cs q.1

kept_once : (k : Known) (before : Composition) (cs : List ComponentTree) (notes : Notes) → (noted (components_remark k before cs) notes).fault ≡ None → kept_from k before cs ≡ composed k before cs
kept_once k before cs notes e = once k before cs (noted_quiet (components_remark k before cs) notes e).0

pub listed_once : (k : Known) (cs : List ComponentTree) (notes : Notes) → (noted (components_remark k no_components cs) notes).fault ≡ None → kept_from k no_components cs ≡ composition_of k cs
listed_once k cs notes e = kept_once k no_components cs notes e

-- the same behind a parent part
pub derived_once : (k : Known) (limited : Bool) (cs : List ComponentTree) (notes : Notes) → (noted (components_remark k (with_parent limited) cs) notes).fault ≡ None → kept_from k (with_parent limited) cs ≡ composed k (with_parent limited) cs
derived_once k limited cs notes e = kept_once k (with_parent limited) cs notes e

-- what the components are
pub kinds_as_kept : (entries : List (Bor (List ℕ) × KnownComponent)) → map kind_of_part (map entry_form entries) ≡ map kind_of_known (map (λ e. e.1) entries)
kinds_as_kept [] = refl
kinds_as_kept (e ∷ es) = ap (λ (kinds : List PartKind). e.1.kind ∷ kinds) (kinds_as_kept es)
