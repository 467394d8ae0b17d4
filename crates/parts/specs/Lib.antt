-- Parts of a text by the numbers of its lines and of its forms.
pub mod Parts
