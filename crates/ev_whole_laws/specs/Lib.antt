pub mod OneForm
