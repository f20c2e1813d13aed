-- One more node or error, by its two cases: it finds room, or not. What holds of both answers holds of the push, and no other proof says how they look. Assumes nothing.
use mathlib.Core.Path.{◌≡◌, refl, ap, subst, ◌∙◌}
use mathlib.Core.Bool.{Bool, true, false}
use mathlib.Core.List.{List}
use Prim.Native.Nat.{ℕ, ◌<◌}
use borrow.Author.Tests.{ltb-true}
use lib.Dec.{ltb}
use Rattle.records.specs.Table.{room, error_width, node_width}
use Rattle.records.specs.declared.Node as rows
use Rattle.parser.specs.declared.State.{State}
use Rattle.parser.specs.Tables.{Stop}
use Rattle.parser.specs.Tables.{Reply, reply, error_at, node_made, error_made, push_node, push_error}

-- two pushes of a node that find as many nodes, and as much room
pub push_nodes : (C : Reply → Reply → Type 0) (d d' : rows.Node) (p p' : State) (E N E' N' : List ℕ) → p.nodes ≡ p'.nodes → room node_width N ≡ room node_width N'
    → (p.nodes < room node_width N → C (node_made d p E N) (node_made d' p' E' N')) → C (reply p (Stop 7) E N) (reply p' (Stop 7) E' N') → C (push_node d p E N) (push_node d' p' E' N')
unfolding push_node
push_nodes C d d' p p' E N E' N' n r made full =
    let same : ltb p.nodes (room node_width N) ≡ ltb p'.nodes (room node_width N') = ap (λ (x : ℕ). ltb x (room node_width N)) n ∙ ap (ltb p'.nodes) r in
    subst (λ (b : Bool). C (answer (ltb p.nodes (room node_width N))) (answer' b)) same (go (ltb p.nodes (room node_width N)) refl)
  where
    answer : Bool → Reply
    answer b = elim b [ true ↦ node_made d p E N | false ↦ reply p (Stop 7) E N ]

    answer' : Bool → Reply
    answer' b = elim b [ true ↦ node_made d' p' E' N' | false ↦ reply p' (Stop 7) E' N' ]

    go : (b : Bool) → ltb p.nodes (room node_width N) ≡ b → C (answer b) (answer' b)
    go true e = made (ltb-true _ _ e)
    go false e = full

-- one push of a node
pub push_node_lem : (C : Reply → Type 0) (d : rows.Node) (p : State) (E N : List ℕ) → (p.nodes < room node_width N → C (node_made d p E N)) → C (reply p (Stop 7) E N) → C (push_node d p E N)
push_node_lem C d p E N made full = push_nodes (λ r s. C r) d d p p E N E N refl refl made full

-- two pushes of an error that find as many errors, and as much room
pub push_errors : (C : Reply → Reply → Type 0) (T T' : List ℕ) (m i : ℕ) (p p' : State) (E N E' N' : List ℕ) → p.errors ≡ p'.errors → room error_width E ≡ room error_width E'
    → (p.errors < room error_width E → C (error_made (error_at T m i) p E N) (error_made (error_at T' m i) p' E' N')) → C (reply p (Stop 6) E N) (reply p' (Stop 6) E' N')
    → C (push_error T m i p E N) (push_error T' m i p' E' N')
unfolding push_error
push_errors C T T' m i p p' E N E' N' n r made full =
    let same : ltb p.errors (room error_width E) ≡ ltb p'.errors (room error_width E') = ap (λ (x : ℕ). ltb x (room error_width E)) n ∙ ap (ltb p'.errors) r in
    subst (λ (b : Bool). C (answer (ltb p.errors (room error_width E))) (answer' b)) same (go (ltb p.errors (room error_width E)) refl)
  where
    answer : Bool → Reply
    answer b = elim b [ true ↦ error_made (error_at T m i) p E N | false ↦ reply p (Stop 6) E N ]

    answer' : Bool → Reply
    answer' b = elim b [ true ↦ error_made (error_at T' m i) p' E' N' | false ↦ reply p' (Stop 6) E' N' ]

    go : (b : Bool) → ltb p.errors (room error_width E) ≡ b → C (answer b) (answer' b)
    go true e = made (ltb-true _ _ e)
    go false e = full

-- one push of an error
pub push_error_lem : (C : Reply → Type 0) (T : List ℕ) (m i : ℕ) (p : State) (E N : List ℕ) → (p.errors < room error_width E → C (error_made (error_at T m i) p E N)) → C (reply p (Stop 6) E N) → C (push_error T m i p E N)
push_error_lem C T m i p E N made full = push_errors (λ r s. C r) T T m i p p E N E N refl refl made full
