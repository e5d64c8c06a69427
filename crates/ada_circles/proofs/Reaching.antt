-- A procedure leads to another one exactly where the node of that is reached from the edges of its own.

use Rattle.std.proofs.Common.{◌≡◌, ◌⊎◌, ℕ, ◌+◌, ◌<◌, List, get_or, [], refl, sym, ap, subst, inl, inr, arith}
use Rattle.std.proofs.lemmas.Option.{slice_get_within}
use Rattle.std.specs.List.{slice_get}
use Rattle.std.specs.Prelude.{Option, Some, None}
use Rattle.ada_program.specs.declared.program.ComponentKind.{ComponentKind}
use Rattle.ada_program.specs.declared.program.Finalization.{Finalization}
use Rattle.ada_program.specs.declared.program.PartKind.TheVariants as part
use Rattle.ada_program.specs.declared.program.ProcedureNo.{ProcedureNo}
use Rattle.ada_program.specs.declared.program.TypeNo.{TypeNo}
use Rattle.ada_program.specs.Controlled.{number_in}
use Rattle.ada_program.specs.ProgramForm.{PartForm, TypeForm, record_of, access_to, object_of, ProgramForm}
use Rattle.ada_program.specs.Walks.{Walks, ends, into}
use Rattle.ada_program.specs.WellFormed.{finalization_in, finalization_of}
use Rattle.ada_reach.specs.Graph.{HasEdge, Reaches, stays, goes, IsReached}
use Rattle.ada_reach.specs.Law.{HasStarts, IsClosed}
use Rattle.ada_reach.proofs.Reaching.{one_edge, both, start_node, least}
use Rattle.ada_circles.specs.Circles.{Creates, Leads, LeadsTo, leads, leads_on}
use Rattle.ada_circles.specs.Edges.{edges}
use Rattle.ada_circles.proofs.Nodes.{procedure, count, body_node, type_node, body_edge, body_has, Leaves, type_edge, operation_has, component_has}

-- The edges of a procedure.
abbrev pub row : ProgramForm → ProcedureNo → List ℕ
row p a = get_or (edges p) a.0 []

-- What is reached: procedures to which it leads, and types to which one walks from an object that it, or one of these, creates.

-- One walks on into a component.
walks_on : (types : List TypeForm) (t first last u : ℕ) → Walks types t first last u →
    (name : List ℕ) (ps : List PartForm) (components : List ComponentKind) (f : Finalization) (i : ℕ) (p : PartForm) (v : TypeNo) (m : ℕ) →
    slice_get types u ≡ Some (record_of name ps components (Some f)) → slice_get ps i ≡ Some p → p.kind ≡ part.Record v →
    number_in (finalization_of types v.0) ≡ Some m → (c : ℕ) × (k : ℕ) × Walks types t c k v.0
walks_on types t first last u ends name ps components f i p v m at there kind has =
    (p.first + 0, p.part + 0, into i 0 0 v.0 m name ps components f p v at there kind has ends)
walks_on types t first last u (into j c k w n other qs others g q x is stands holds numbered inside) name ps components f i p v m at there kind has =
    let (d, l, walks) = walks_on types x.0 c k u inside name ps components f i p v m at there kind has in
    (q.first + d, q.part + l, into j d l v.0 n other qs others g q x is stands holds numbered walks)

-- To a type one walks from an object that the procedure creates, or one to which it leads.
abbrev Comes : ProgramForm → ProcedureNo → ℕ → Type 0
Comes p a u =
    (q : ProcedureNo) × (t : ℕ) × (first : ℕ) × (last : ℕ) × ((q ≡ a) ⊎ LeadsTo p a q) × Creates p q t × Walks p.types t first last u

abbrev Found : ProgramForm → ProcedureNo → ℕ → Type 0
Found p a m = ((q : ProcedureNo) × (m ≡ q.0) × (q.0 < count p) × LeadsTo p a q) ⊎ ((u : ℕ) × (m ≡ count p + u) × Comes p a u)

-- What overrides an operation of such a type is led to.
led_to : (p : ProgramForm) (a : ProcedureNo) (u : ℕ) → Comes p a u → (q : ProcedureNo) →
    ((t first last : ℕ) (r : ProcedureNo) → Creates p r t → Walks p.types t first last u → Leads p r q) → LeadsTo p a q
led_to p a u (r, t, first, last, inl same, creates, walks) q on =
    leads (subst (λ (x : ProcedureNo). Leads p x q) same (on t first last r creates walks))
led_to p a u (r, t, first, last, inr before, creates, walks) q on = leads_on before (on t first last r creates walks)

numbered : (o : Option Finalization) (f : Finalization) → o ≡ Some f → number_in o ≡ Some f.number.0
numbered o f is = ap number_in is

left : (p : ProgramForm) (a : ProcedureNo) (u m : ℕ) → Comes p a u → Leaves p u m → Found p a m
left p a u m comes (name, ps, components, f, at, inl (q, overrides, lt, is)) =
    inl (q, is, lt, led_to p a u comes q (λ t first last r creates walks. (t, creates, (u, first, last, f, walks, ap finalization_in at, overrides))))
left p a u m (r, t, first, last, way, creates, walks) (name, ps, components, f, at, inr (i, q, v, g, there, kind, parts, is)) =
    let (c, k, on) = walks_on p.types t first last u walks name ps components f i q v g.number.0 at there kind
    (numbered (finalization_of p.types v.0) g parts) in
    inr (v.0, is, (r, t, c, k, way, creates, on))

closed : (p : ProgramForm) (a : ProcedureNo) → IsClosed (edges p) (Found p a)
closed p a x y (inl (q, is, lt, before)) e node =
    let (t, f, creates, parts, at) = body_edge p q y lt (subst (λ (z : ℕ). HasEdge (edges p) z y) is e) in
    inr (t, at, (q, t, 0, 0, inr before, creates, ends))
closed p a x y (inr (u, is, comes)) e node = left p a u y comes (type_edge p u y (subst (λ (z : ℕ). HasEdge (edges p) z y) is e))

starts : (p : ProgramForm) (a : ProcedureNo) → a.0 < count p → HasStarts (edges p) (row p a) (Found p a)
starts p a lt m has node = let (t, f, creates, parts, at) = body_edge p a m lt has in inr (t, at, (a, t, 0, 0, inl refl, creates, ends))

pub sound : (p : ProgramForm) (a : ProcedureNo) → a.0 < count p → IsReached (edges p) (row p a) a.0 → LeadsTo p a a
sound p a lt r = go (least (edges p) (row p a) (Found p a) (starts p a lt) (closed p a) a.0 r)
  where
    go : Found p a a.0 → LeadsTo p a a
    go (inl (q, is, less, to)) = subst (LeadsTo p a) (ap procedure (sym is)) to
    go (inr (u, is, comes)) = absurd (omega (arith, is, lt))

-- What is led to is reached.

-- A type with a part that has an operation has controlled parts.
controlled : (types : List TypeForm) (t first last u : ℕ) (f : Finalization) → Walks types t first last u → finalization_of types u ≡ Some f →
    (g : Finalization) × (finalization_of types t ≡ Some g)
controlled types t first last u f ends at = (f, at)
controlled types t first last u f (into j c k w n other qs others g q x is stands holds numbered inside) at = (g, ap finalization_in is)

walked : (p : ProgramForm) (t first last u : ℕ) (f : Finalization) → Walks p.types t first last u → finalization_of p.types u ≡ Some f →
    Reaches (edges p) (count p + t) (count p + u)
walked p t first last u f ends at = stays (type_node p u f at)
walked p t first last u f (into j c k w n other qs others g q x is stands holds numbered inside) at =
    let (h, parts) = controlled p.types x.0 c k u f inside at in
    both (edges p) (count p + t) (count p + x.0) (count p + u)
    (one_edge (edges p) (count p + t) (count p + x.0) (component_has p t other qs others g h j q x is stands holds parts) (type_node p x.0 h parts))
    (walked p x.0 c k u f inside at)

record_with : (d : Option TypeForm) (f : Finalization) → finalization_in d ≡ Some f →
    (name : List ℕ) × (ps : List PartForm) × (components : List ComponentKind) × (d ≡ Some (record_of name ps components (Some f)))
record_with None f is = absurd (cc is)
record_with (Some (record_of name ps components o)) f is = (name, ps, components, ap (λ (x : Option Finalization). Some (record_of name ps components x)) is)
record_with (Some (access_to name designated pool)) f is = absurd (cc is)
record_with (Some (object_of record_type)) f is = absurd (cc is)

reaches_next : (p : ProgramForm) (a b : ProcedureNo) → Leads p a b → b.0 < count p → (m : ℕ) × HasEdge (edges p) a.0 m × Reaches (edges p) m b.0
reaches_next p a b (t, creates, (u, first, last, f, walks, at, overrides)) lt =
    let (g, parts) = controlled p.types t first last u f walks at in
    let (name, ps, components, is) = record_with (slice_get p.types u) f at in (
      count p + t,
      body_has p a t g creates parts,
      goes (walked p t first last u f walks at) (operation_has p u name ps components f b is overrides lt) (body_node p b.0 lt),
    )

has_body : (p : ProgramForm) (a b : ProcedureNo) → Leads p a b → a.0 < count p
has_body p a b (t, (body, i, d, at, there, makes), overrides) = slice_get_within p.bodies a.0 body at

pub complete : (p : ProgramForm) (a b : ProcedureNo) → LeadsTo p a b → b.0 < count p → IsReached (edges p) (row p a) b.0
complete p a b (leads one) lt = reaches_next p a b one lt
complete p a b (leads_on {between} more one) lt =
    let (start, has, before) = complete p a between more (has_body p between b one) in
    let (m, e, on) = reaches_next p between b one lt in
    (start, has, both (edges p) start m b.0 (goes before e (start_node (edges p) m b.0 on)) on)
