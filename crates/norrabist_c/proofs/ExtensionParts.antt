-- What is told of an extension: that its length fits, and that it makes the extension. Assumes
-- nothing.
use Prim.Native.Nat.{ℕ, ◌+◌, ◌<◌}
use mathlib.Core.Path.{◌≡◌, sym, ap}
use mathlib.Core.List.{List}
use native.Mathlib.Omega.{arith}
use lib.ListN.{length}
use Rattle.refusal.specs.Answers.{Answer, accepted}
use Rattle.wire.specs.Numbers.{Bytes}
use Rattle.wire.specs.Parts.{part_of}
use Rattle.list.specs.Tagged.{any_data, tagged_bytes}
use Rattle.list.specs.declared.tagged.Tagged.{Tagged}
use Rattle.list.proofs.Tags.{fit_back, length_tagged}
use Rattle.read_ext.specs.Extensions.{InBlock, sound, content_view, extension_of, extension_says, opened}
use Rattle.read_ext.specs.Kinds.{fits}
use Rattle.std.specs.Prelude.{Result, Ok, Err}
use Rattle.read_ext.specs.declared.NotHad.{NotHad}
use Rattle.read_ext.specs.declared.NotHad.TheVariants.{Damaged, Refused}
use Rattle.read_ext.specs.declared.TlsExtensionFound.{TlsExtensionFound}
use Rattle.read_ext.proofs.Blocks.{Item, from_item, place_item}
use Rattle.read_ext.proofs.Data.{says_content}
use Rattle.read_ext.proofs.Turns.{name_got}
use Rattle.norrabist_c.specs.Extensions.{Tellable, extension_told, extension_back, EveryExtensionBack}

-- two bytes hold the length of the content of what is found
pub item_below : (s : List ℕ) → Bytes s → {y : TlsExtensionFound} → Item s y → y.content.len < 65536
unfolding opened
item_below s b {y} (m, x, f, o) =
    let w = fit_back 2 fits s m b f in
    let l : x.view.len ≡ length (part_of s x.view) = ap (λ (z : Tagged). z.view.len) w.place in
    let c : (content_view x.tag x.view).len ≡ y.content.len = ap (λ (z : TlsExtensionFound). z.content.len) o in
    omega (arith, l, c, w.obeys.1)

-- so what a walk or a place answers can be told
pub tellable : (answer : Result TlsExtensionFound NotHad) {a : InBlock (Answer TlsExtensionFound)} → extension_says answer ≡ a
    → ((y : TlsExtensionFound) → a ≡ sound (accepted y) → y.content.len < 65536) → Tellable answer
tellable (Err (Damaged d)) e h = tt
tellable (Err (Refused r)) e h = tt
tellable (Ok y) e h = h y (sym e)

-- an item that was found is made of what is told of it
made_back : (s : List ℕ) → Bytes s → {y : TlsExtensionFound} → Item s y
    → extension_back s (extension_told (sound (accepted y))) ≡ y
unfolding opened
made_back s b {y} (m, x, f, o) =
    let v = content_view x.tag x.view in
    let q = says_content s m b f in
    let d : extension_back s (extension_told (sound (accepted (opened s x)))) ≡ opened s x =
    ap (λ (n : ℕ). record { ext_type = x.tag; content = v; next = n; extension = extension_of s x.tag v })
    (sym q.1) in
    rw (← o) d

pub every_extension_back : EveryExtensionBack
every_extension_back s b = record {
  walked = λ at x e. rw e (made_back s b (from_item s at x e));
  placed = λ n x e. rw e (made_back s b (place_item s n x e));
  named = λ at x e.
      let w = fit_back 1 any_data s at b (name_got s at e) in
      let d = part_of s x.view in
      let l : x.view.len ≡ length d = ap (λ (z : Tagged). z.view.len) w.place in
      let v : x.view.start ≡ at + 1 + 2 = ap (λ (z : Tagged). z.view.start) w.place in
      let n : x.next ≡ at + length (tagged_bytes 1 (x.tag, d)) = ap (λ (z : Tagged). z.next) w.place in
      let q : x.view.start + x.view.len ≡ x.next = omega (arith, l, v, n, length_tagged 1 x.tag d) in
      rw e (ap (λ (k : ℕ). record { tag = x.tag; view = x.view; next = k }) q);
}
