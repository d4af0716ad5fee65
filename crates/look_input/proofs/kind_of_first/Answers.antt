-- `look_input::kind_of_first` meets its contract, test by test. Assumes nothing.
use mathlib.Core.Path.{sym, ◌∙◌}
use borrow.Author.Tests.{eq-eqb, ne_eqb}
use Rattle.look_input.specs.Inputs.{first_kind}
use Rattle.look_input.proofs.kind_of_first.Goals as goal

pub returns-then-is_pcap : goal.returns-then-is_pcap
unfolding first_kind
returns-then-is_pcap c = rw (sym c.is_pcap.ensures ∙ c.if-is_pcap.true)

pub returns-then-n-eq-PCAPNG : goal.returns-then-n-eq-PCAPNG
unfolding first_kind
returns-then-n-eq-PCAPNG c =
    rw (
      sym c.is_pcap.ensures ∙ c.if-is_pcap.false,
      eq-eqb _ _ c.if-n-eq-PCAPNG.true,
    )

pub returns-then-is_gzip : goal.returns-then-is_gzip
unfolding first_kind
returns-then-is_gzip c =
    rw (
      sym c.is_pcap.ensures ∙ c.if-is_pcap.false,
      ne_eqb _ _ c.if-n-eq-PCAPNG.false,
      sym c.is_gzip.ensures ∙ c.if-is_gzip.true,
    )

pub returns-then-is_dtls : goal.returns-then-is_dtls
unfolding first_kind
returns-then-is_dtls c =
    rw (
      sym c.is_pcap.ensures ∙ c.if-is_pcap.false,
      ne_eqb _ _ c.if-n-eq-PCAPNG.false,
      sym c.is_gzip.ensures ∙ c.if-is_gzip.false,
      sym c.is_dtls.ensures ∙ c.if-is_dtls.true,
    )

pub returns-then-is_ssl2 : goal.returns-then-is_ssl2
unfolding first_kind
returns-then-is_ssl2 c =
    rw (
      sym c.is_pcap.ensures ∙ c.if-is_pcap.false,
      ne_eqb _ _ c.if-n-eq-PCAPNG.false,
      sym c.is_gzip.ensures ∙ c.if-is_gzip.false,
      sym c.is_dtls.ensures ∙ c.if-is_dtls.false,
      sym c.is_ssl2.ensures ∙ c.if-is_ssl2.true,
    )

pub returns-then-is_hex : goal.returns-then-is_hex
unfolding first_kind
returns-then-is_hex c =
    rw (
      sym c.is_pcap.ensures ∙ c.if-is_pcap.false,
      ne_eqb _ _ c.if-n-eq-PCAPNG.false,
      sym c.is_gzip.ensures ∙ c.if-is_gzip.false,
      sym c.is_dtls.ensures ∙ c.if-is_dtls.false,
      sym c.is_ssl2.ensures ∙ c.if-is_ssl2.false,
      sym c.is_hex.ensures ∙ c.if-is_hex.true,
    )

pub returns-else-is_hex : goal.returns-else-is_hex
unfolding first_kind
returns-else-is_hex c =
    rw (
      sym c.is_pcap.ensures ∙ c.if-is_pcap.false,
      ne_eqb _ _ c.if-n-eq-PCAPNG.false,
      sym c.is_gzip.ensures ∙ c.if-is_gzip.false,
      sym c.is_dtls.ensures ∙ c.if-is_dtls.false,
      sym c.is_ssl2.ensures ∙ c.if-is_ssl2.false,
      sym c.is_hex.ensures ∙ c.if-is_hex.false,
    )
