-- What is told of an extension block, of an extension and of a server name: RULES 1.7, 11.15. Of a
-- block the items that can be had from its front, which are all of them, or as many as the index of
-- the first bad one; of an extension its type and its content, which ends where it ends.
use Rattle.std.specs.Prelude.{◌+◌, ◌<◌, ◌≡◌}
use Rattle.refusal.specs.{ℕ, List, Answer, accepted, refused, number_of, Result, Ok, Err}
use Rattle.wire.specs.{Bytes}
use Rattle.list.specs.declared.tagged.Tagged.{Tagged}
use Rattle.read_ext.specs.Extensions.{InBlock, sound, damaged, extension_of, extension_from, extension_place, name_from}
use Rattle.read_ext.specs.declared.NotHad.{NotHad}
use Rattle.read_ext.specs.declared.TlsExtensionFound.{TlsExtensionFound}
use Rattle.norrabist_c.specs.declared.{extensions.ExtensionsTold.ExtensionsTold, extensions.ExtensionTold.ExtensionTold, extensions.ServerNameTold.ServerNameTold}

abbrev pub extensions_told : InBlock ℕ → ExtensionsTold
extensions_told (sound n) = record { items = n; number = 0 }
extensions_told (damaged n r) = record { items = n; number = number_of r.reason }

abbrev pub extension_told : InBlock (Answer TlsExtensionFound) → ExtensionTold
extension_told (sound (accepted x)) = record { start = x.content.start; ext_type = x.ext_type; len = x.content.len; number = 0 }
extension_told (sound (refused r)) = record { start = 0; ext_type = 0; len = 0; number = number_of r.reason }
extension_told (damaged n r) = record { start = 0; ext_type = 0; len = 0; number = number_of r.reason }

-- two bytes hold the length of the content, as they do of all that is found
abbrev pub Tellable : Result TlsExtensionFound NotHad → Type 0
Tellable (Err e) = Unit
Tellable (Ok x) = x.content.len < 65536

abbrev pub name_told : Answer Tagged → ServerNameTold
name_told (accepted x) = record { start = x.view.start; len = x.view.len; name_type = x.tag; number = 0 }
name_told (refused r) = record { start = 0; len = 0; name_type = 0; number = number_of r.reason }

-- the value back from what is told of it
abbrev pub extension_back : List ℕ → ExtensionTold → TlsExtensionFound
extension_back s t = record {
  ext_type = t.ext_type;
  content = record { start = t.start; len = t.len };
  next = t.start + t.len;
  extension = extension_of s t.ext_type (record { start = t.start; len = t.len });
}

abbrev pub name_back : ServerNameTold → Tagged
name_back t = record { tag = t.name_type; view = record { start = t.start; len = t.len }; next = t.start + t.len }

-- what is shown of it: an extension, or a name, that is found is the one made of what is told
pub record ExtensionsBack (s : List ℕ) : Type 0 where
  pub walked : (at : ℕ) (x : TlsExtensionFound) → extension_from s at ≡ sound (accepted x) → extension_back s (extension_told (extension_from s at)) ≡ x
  pub placed : (n : ℕ) (x : TlsExtensionFound) → extension_place n s ≡ sound (accepted x) → extension_back s (extension_told (extension_place n s)) ≡ x
  pub named : (at : ℕ) (x : Tagged) → name_from s at ≡ accepted x → name_back (name_told (name_from s at)) ≡ x

-- shown by `proofs/ExtensionParts.antt`
abbrev pub EveryExtensionBack : Type 0
EveryExtensionBack = (s : List ℕ) → Bytes s → ExtensionsBack s
