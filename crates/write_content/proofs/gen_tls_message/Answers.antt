-- `write_content::gen_tls_message` meets its contract, by that of the writer of each kind. Assumes
-- nothing.
use Prim.Native.Nat.{ℕ}
use mathlib.Core.Path.{◌≡◌, refl, ap, sym, ◌∙◌}
use mathlib.Core.List.{List, [], ◌∷◌}
use types.Run.{OneOf, miss}
use denote.Enum.Declared.{tag_of}
use Rattle.refusal.specs.Answers.{refused}
use Rattle.wire.proofs.Puts.{text_refused}
use Rattle.message.specs.Messages.{not_written_of}
use Rattle.content.specs.declared.TlsMessage.{TlsMessage}
use Rattle.content.specs.declared.TlsMessage.TheVariants.{Handshake, ChangeCipherSpec, Alert}
use Rattle.content.specs.declared.TlsMessage.TheVariants.{ApplicationData, Heartbeat}
use Rattle.content.specs.contracts.TlsMessage.{the_type}
use Rattle.write_content.specs.ContentTexts.{content_text}
use Rattle.write_content.proofs.gen_tls_message.Goals as goal

-- the kinds that are not written, by the numbers that the code has for them
abbrev numbers : List ℕ
numbers = 3 ∷ 4 ∷ []

others : (s : List ℕ) (m : TlsMessage) → OneOf numbers (tag_of the_type m) → content_text s m ≡ not_written_of
unfolding content_text
others s (Handshake h) k = absurd (miss numbers 0 tt k)
others s ChangeCipherSpec k = absurd (miss numbers 1 tt k)
others s (Alert a) k = absurd (miss numbers 2 tt k)
others s (ApplicationData d) k = refl
others s (Heartbeat h) k = refl

pub returns-in-Handshake : goal.returns-in-Handshake
unfolding content_text
returns-in-Handshake c =
    record {
      result_value = rw c.in-Handshake.is c.gen_tls_messagehandshake.ensures.result_value;
      out_after = rw c.in-Handshake.is c.gen_tls_messagehandshake.ensures.out_after;
    }

pub returns-in-ChangeCipherSpec : goal.returns-in-ChangeCipherSpec
unfolding content_text
returns-in-ChangeCipherSpec c =
    record {
      result_value = rw c.in-ChangeCipherSpec.is c.gen_tls_changecipherspec.ensures.result_value;
      out_after = rw c.in-ChangeCipherSpec.is c.gen_tls_changecipherspec.ensures.out_after;
    }

pub returns-in-Alert : goal.returns-in-Alert
unfolding content_text
returns-in-Alert c =
    record {
      result_value = rw c.in-Alert.is c.gen_tls_alert.ensures.result_value;
      out_after = rw c.in-Alert.is c.gen_tls_alert.ensures.out_after;
    }

pub returns-in-ApplicationData : goal.returns-in-ApplicationData
returns-in-ApplicationData c =
    let o = text_refused 0 c.args.out.now (others c.args.i.now c.args.m c.in-ApplicationData.in-ApplicationData-own.keys4) in
    record {
      result_value = ap refused c.unplaced.ensures ∙ sym o.says;
      out_after = sym o.leaves;
    }
