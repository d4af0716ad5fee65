-- `read_server::tlsv12::parse_tls_server_hello_tlsv12` meets its contract, field by field. Assumes
-- nothing.
use mathlib.Core.Path.{refl, sym, ◌∙◌}
use mathlib.Core.List.{[], ◌∷◌}
use native.Mathlib.Omega.{arith}
use Rattle.refusal.specs.Answers.{as_answer}
use Rattle.refusal.proofs.Told.{case}
use Rattle.wire.proofs.Numbers.{number_value, below_limit}
use Rattle.grammar.specs.Hellos.{cipher, compression}
use Rattle.grammar.proofs.Chain.{begin, begin_on, end}
use Rattle.read_server.specs.Server.{server}
use Rattle.read_server.proofs.Whole.{demand3}
use Rattle.read_start.proofs.Begun.{begun, began, unbegun}
use Rattle.read_start.proofs.Taken.{heard, unheard}
use Rattle.read_server.proofs.tlsv12.parse_tls_server_hello_tlsv12.Goals as goal

pub returns-in_err-start : goal.returns-in_err-start
returns-in_err-start c =
    record {
      result_value = unbegun (cipher ∷ compression ∷ []) (begin (server c.args.has_ext) _) refl c.parse_start.ensures
          c.in_err-start.was _ c.from_residual.ensures;
      by_split = demand3 c.args.has_ext _ (λ n. (c.type_inv.i n).fits);
    }

pub returns-in_err-cipher : goal.returns-in_err-cipher
returns-in_err-cipher c =
    let at1 = began (cipher ∷ compression ∷ []) _ (begin_on (server c.args.has_ext) _) c.parse_start.ensures c.in_ok-start.was in
    record {
      result_value = unheard at1 c.parse_be.ensures.result_value c.in_err-cipher.was _ c.from_residual-in_err-cipher.ensures;
      by_split = demand3 c.args.has_ext _ (λ n. (c.type_inv.i n).fits);
    }

pub returns-in_err-compression : goal.returns-in_err-compression
returns-in_err-compression c =
    let at1 = began (cipher ∷ compression ∷ []) _ (begin_on (server c.args.has_ext) _) c.parse_start.ensures c.in_ok-start.was in
    let at2 = heard at1 c.parse_be.ensures.result_value c.in_ok-cipher.was in
    record {
      result_value = unheard at2 c.parse_be-2.ensures.result_value c.in_err-compression.was _
          c.from_residual-in_err-compression.ensures;
      by_split = demand3 c.args.has_ext _ (λ n. (c.type_inv.i n).fits);
    }

pub overflow_cast-result : goal.overflow_cast-result
overflow_cast-result c = omega (arith, below_limit 2 c.parse_be.ensures.below c.in_ok-cipher.was)

pub overflow_cast-result-2 : goal.overflow_cast-result-2
overflow_cast-result-2 c = omega (arith, below_limit 1 c.parse_be-2.ensures.below c.in_ok-compression.was)

pub returns : goal.returns
returns c =
    let b = begun _ (case as_answer c.parse_start.ensures c.in_ok-start.was) in
    let at1 = began (cipher ∷ compression ∷ []) _ (begin_on (server c.args.has_ext) _) c.parse_start.ensures c.in_ok-start.was in
    let at2 = heard at1 c.parse_be.ensures.result_value c.in_ok-cipher.was in
    let at3 = heard at2 c.parse_be-2.ensures.result_value c.in_ok-compression.was in
    record {
      result_value = sym (end at3 ∙ rw (
        b.version,
        b.random,
        b.id,
        number_value 2 _ _ (case as_answer c.parse_be.ensures.result_value c.in_ok-cipher.was),
        number_value 1 _ _ (case as_answer c.parse_be-2.ensures.result_value c.in_ok-compression.was),
        c.extensions-ext.ensures,
      ));
      by_split = demand3 c.args.has_ext _ (λ n. (c.type_inv.i n).fits);
    }
