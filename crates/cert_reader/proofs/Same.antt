-- The reader hands out the items of the list, each at its place: it begins at the front, and from
-- one item it moves to the place past it, as every walk over a list does
-- (`list/proofs/Fields.antt`). Assumes nothing.
use Prim.Native.Nat.{ℕ, zero, suc, ◌≤◌}
use mathlib.Core.Path.{◌≡◌, refl, sym, ap, ◌∙◌}
use mathlib.Core.List.{List}
use native.Mathlib.Omega.{arith}
use denote.Ref.{Bor}
use Rattle.refusal.specs.Answers.{Answer, accepted, refused}
use Rattle.refusal.specs.Refusals.{refusal}
use Rattle.refusal.specs.declared.Reason.TheVariants.{NoSuch}
use Rattle.refusal.specs.declared.Refusal.{Refusal}
use Rattle.wire.specs.declared.view.Part.{Part}
use Rattle.field.specs.Fields.{sized}
use Rattle.field.specs.Standing.{least}
use Rattle.list.specs.Items.{item_from, items, place}
use Rattle.list.proofs.Walk.{none_after}
use Rattle.list.proofs.Fields.{item_none, begins, goes_on}
use Rattle.cert_reader.specs.Chain.{at_front, cert_of, past_or, moved_on_of, reader_after, SameItems}
use Rattle.cert_reader.specs.declared.TlsCertificateReader.{TlsCertificateReader}

-- a certificate takes a byte at least
some_bytes : 1 ≤ least (sized 3)
some_bytes = omega arith

module _ (s : List ℕ) where
  at_first : item_from (sized 3) s 0 ≡ place 0 (items (sized 3) s)
  at_first = sym (begins (sized 3) some_bytes s)

  -- where one certificate stands at the place k, the next one stands past it
  at_next : (k at : ℕ) → item_from (sized 3) s at ≡ place k (items (sized 3) s)
      → item_from (sized 3) s (past_or at (item_from (sized 3) s at)) ≡ place (suc k) (items (sized 3) s)
  at_next k at e = go (item_from (sized 3) s at) refl
    where
      go : (a : Answer Part) → item_from (sized 3) s at ≡ a
          → item_from (sized 3) s (past_or at (item_from (sized 3) s at)) ≡ place (suc k) (items (sized 3) s)
      go (accepted p) y = rw y (sym (goes_on (sized 3) some_bytes s k p (sym e ∙ y)))
      go (refused r) y =
          let n = item_none (sized 3) s at y in
          ap (λ (a : Answer Part). item_from (sized 3) s (past_or at a)) y ∙ y ∙ ap refused n.2
          ∙ sym (none_after k (items (sized 3) s) (sym e ∙ y))

module _ (l : Bor (List ℕ)) where
  keeps : (k : ℕ) → (reader_after k l).list ≡ l
  unfolding reader_after
  keeps zero = refl
  keeps (suc k) = keeps k

  meets : (k : ℕ) → cert_of (reader_after k l) ≡ place k (items (sized 3) l.now)
  unfolding reader_after
  meets zero = at_first l.now
  meets (suc k) = rw (keeps k) (at_next l.now k (reader_after k l).at (rw (keeps k) at (meets k)))

stays : (r : TlsCertificateReader) (x : Refusal) → cert_of r ≡ refused x → (x ≡ refusal NoSuch 0 0) × (moved_on_of r ≡ r)
stays r x e = ((item_none (sized 3) r.list.now r.at e).2, rw e)

pub every_reader : (l : Bor (List ℕ)) → SameItems l
every_reader l = record { meets = meets l; keeps = keeps l; stays = stays }

-- what the first two readers have
pub first_cert : (l : Bor (List ℕ)) → cert_of (at_front l) ≡ place 0 (items (sized 3) l.now)
unfolding reader_after
first_cert l = meets l 0

pub second_cert : (l : Bor (List ℕ)) → cert_of (moved_on_of (at_front l)) ≡ place 1 (items (sized 3) l.now)
unfolding reader_after
second_cert l = meets l 1
